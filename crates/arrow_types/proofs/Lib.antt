mod NativeTextLemmas
mod QuotedLemmas
mod BitLemmas
pub mod CallerLemmas
mod IndexLemmas
mod ListLemmas
mod NumberLemmas
mod OptionLemmas
mod PieceLemmas
