pub mod Lanes
pub mod ChipLaws
pub mod ChipRuns
pub mod PairLaws
