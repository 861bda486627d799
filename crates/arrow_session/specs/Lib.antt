pub mod Counted
pub mod Session
pub mod Device
