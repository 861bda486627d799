pub mod GroupEquality
pub mod Grouping
pub mod Hashes
pub mod Pairs
