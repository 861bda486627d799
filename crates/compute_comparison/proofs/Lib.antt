pub mod BitLemmas
pub mod CallerLemmas
pub mod CountLemmas
pub mod KleeneLemmas
pub mod LawLemmas
pub mod NullLemmas
pub mod PairLemmas
pub mod ScalarLemmas
