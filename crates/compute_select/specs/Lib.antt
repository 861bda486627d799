pub mod Selects
pub mod Lengths
