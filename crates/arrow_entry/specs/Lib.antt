pub mod Entry
pub mod Slot
