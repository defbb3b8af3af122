pub mod Runs
pub mod Units
pub mod Words
