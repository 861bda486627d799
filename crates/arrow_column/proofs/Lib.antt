mod AgreeLemmas
mod AppendLemmas
pub mod CallerLemmas
pub mod ColumnLemmas
mod CutLemmas
mod EqualityLemmas
mod MaskLemmas
mod RangeLemmas
mod RowLemmas
mod SlotLemmas
mod BothLemmas
mod ValidLemmas
