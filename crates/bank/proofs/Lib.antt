pub mod Copies
pub mod Meanings
pub mod RunLaws
pub mod UnitLaws
pub mod WordLaws
