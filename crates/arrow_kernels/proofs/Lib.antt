pub mod BitLemmas
pub mod CallerLemmas
pub mod ChoiceLemmas
mod CountLemmas
pub mod ItemLemmas
pub mod JoinLemmas
pub mod RunLemmas
pub mod WordLemmas
mod KeyLemmas
mod LawLemmas
