pub mod CutLemmas
pub mod DictionaryLemmas
pub mod ListLemmas
pub mod SlotLemmas
