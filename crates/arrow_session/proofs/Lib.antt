pub mod Parsing
pub mod Runs
