pub mod Law
pub mod More
