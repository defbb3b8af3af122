pub mod Sides
pub mod Reached
pub mod Search
pub mod Marks
pub mod Question
