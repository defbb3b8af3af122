pub mod Lists
pub mod Reach
pub mod Share
pub mod Theorem
pub mod Gains
pub mod Example
