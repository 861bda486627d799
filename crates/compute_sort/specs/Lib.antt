pub mod Sort
pub mod IndexedValues
pub mod Columns
pub mod Partition
