pub mod Aggregates
pub mod Folds
pub mod Sums
pub mod Groups
pub mod GroupSums
