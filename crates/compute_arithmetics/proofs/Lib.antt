pub mod CombineLemmas
pub mod DivisionLemmas
