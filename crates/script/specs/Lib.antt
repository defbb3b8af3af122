pub mod Answers
pub mod Lines
pub mod Requests
pub mod Sound
pub mod Text
