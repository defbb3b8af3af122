pub mod Cuts
pub mod Digits
pub mod Heads
pub mod Sounds
pub mod Turns
