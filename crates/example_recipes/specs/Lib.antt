pub mod Prices
pub mod Rows
pub mod Slots
pub mod Within
