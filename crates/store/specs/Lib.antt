pub mod Answers
pub mod Orderly
pub mod Steps
pub mod Callers
