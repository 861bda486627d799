pub mod ShownLemmas
pub mod NullLemmas
pub mod ChoiceLemmas
pub mod KeyLemmas
pub mod ItemLemmas
pub mod LengthLemmas
