pub mod DecimalLemmas
pub mod DigitLemmas
pub mod NumberLemmas
pub mod RetypeLemmas
pub mod SlotLemmas
pub mod StoredLemmas
pub mod TextLemmas
pub mod WrapLemmas
