pub mod Sound
pub mod Theorem
