pub mod Chips
pub mod Pairs
