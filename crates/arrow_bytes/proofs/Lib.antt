mod BackLemmas
pub mod CallerLemmas
mod CutLemmas
mod KindLemmas
pub mod PieceLemmas
mod TextLemmas
