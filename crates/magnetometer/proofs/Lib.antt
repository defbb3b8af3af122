pub mod Halves
pub mod Survives
