pub mod Chains
pub mod Obstacles
pub mod Reading
pub mod Standings
