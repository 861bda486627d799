pub mod Comparison
pub mod Kleene
pub mod Logic
pub mod Slots
