pub mod ItemLemmas
pub mod Utf8Lemmas
pub mod WindowLemmas
mod CountLemmas
mod InnerLemmas
mod KeyLemmas
mod PlaceLemmas
mod AsciiLemmas
pub mod CallerLemmas
