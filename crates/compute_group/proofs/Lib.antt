pub mod GroupLemmas
pub mod CallerLemmas
