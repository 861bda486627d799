pub mod Items
pub mod Blocks
pub mod Marks
pub mod Masks
pub mod MarkWrites
pub mod MarkEquality
pub mod MarkText
pub mod MarkAppends
