pub mod Entries
pub mod GrantedWord
pub mod Unions
pub mod Words
