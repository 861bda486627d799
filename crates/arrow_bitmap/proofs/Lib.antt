mod AppendLemmas
mod BlockLemmas
mod CopyLemmas
mod CountLemmas
mod EqualityLemmas
pub mod MarkLemmas
pub mod ByteWords
