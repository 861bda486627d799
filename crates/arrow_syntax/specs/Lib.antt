pub mod Fields
pub mod Lines
pub mod Readers
pub mod Text
pub mod Words
