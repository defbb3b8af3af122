pub mod Records
pub mod Upsets
