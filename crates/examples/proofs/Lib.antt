pub mod Stages
pub mod Listed
