pub mod Calls
pub mod Runs
pub mod Requests
pub mod Theorem
