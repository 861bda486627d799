pub mod CallerLemmas
pub mod Grown
pub mod Rules
pub mod Seen
pub mod Steps
pub mod SlotLemmas
pub mod TurnLemmas
