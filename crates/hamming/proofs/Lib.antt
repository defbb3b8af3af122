pub mod Computed
pub mod Corrects
