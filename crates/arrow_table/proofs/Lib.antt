pub mod Listing
pub mod RunLemmas
pub mod Steps
