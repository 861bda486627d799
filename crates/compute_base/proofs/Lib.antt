pub mod BitLemmas
pub mod CallerLemmas
pub mod ListLemmas
pub mod MaskLemmas
pub mod PartialLemmas
pub mod SlotLemmas
pub mod WordLemmas
