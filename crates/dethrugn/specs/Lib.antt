-- Definitions of the crates below that contracts of arrays, builders and kernels cite; callers cite them as specs of
-- this crate.

-- data types, their physical types and texts, refusals; what failures leave; which index a number is, and which value
-- bytes are; equality of types
pub use Rattle.arrow_types.specs.Types
pub use Rattle.arrow_types.specs.TypeText
pub use Rattle.arrow_types.specs.Failures
pub use Rattle.arrow_types.specs.IndexKey
pub use Rattle.arrow_types.specs.LeBytes
pub use Rattle.arrow_types.specs.TypeEquality
pub use Rattle.arrow_types.specs.NativeEquality
pub use Rattle.arrow_types.specs.Decisions
-- the enums of data types and errors, and their variants (`Error.TheVariants`)
pub use Rattle.arrow_types.specs.declared.data_type.DataType
pub use Rattle.arrow_types.specs.declared.error.Error
pub use Rattle.arrow_types.specs.declared.physical_type.PhysicalType
pub use Rattle.arrow_types.specs.declared.primitive_type.PrimitiveType
pub use Rattle.arrow_types.specs.declared.units.TimeUnit
pub use Rattle.arrow_types.specs.declared.units.IntervalUnit
-- marks of packed bytes, iterators over marks; offsets, and values of bytes; rows and slots, and which mask fits;
-- changes of values by closures; the parts that thawing returns
pub use Rattle.arrow_memory.specs.Marks
pub use Rattle.arrow_memory.specs.Items as MarkItems
pub use Rattle.arrow_memory.specs.MarkAppends
pub use Rattle.arrow_memory.specs.Offsets
pub use Rattle.arrow_memory.specs.FileOffsets
pub use Rattle.arrow_memory.specs.LeBytes as BufferBytes
pub use Rattle.arrow_memory.specs.Rows
pub use Rattle.arrow_memory.specs.NumberEquality
pub use Rattle.arrow_memory.specs.Changes as ValueChanges
pub use Rattle.arrow_memory.specs.Thaw
-- columns, which are what contracts see of arrays and builders, what their slots show, and how they change and grow
pub use Rattle.arrow_column.specs.Column
pub use Rattle.arrow_column.specs.Combined
pub use Rattle.arrow_column.specs.SlotOrder
pub use Rattle.arrow_column.specs.Slots
pub use Rattle.arrow_column.specs.Changes
pub use Rattle.arrow_column.specs.Masks
pub use Rattle.arrow_column.specs.Growth
pub use Rattle.arrow_column.specs.Appends
pub use Rattle.arrow_column.specs.SlotEquality
pub use Rattle.arrow_column.specs.ArrayEquality
-- tests of raw parts in order
pub use Rattle.arrow_column.specs.Validation
pub use Rattle.arrow_primitive.specs.Fits as PrimitiveFits
pub use Rattle.arrow_boolean.specs.Fits as BooleanFits
-- the items between offsets; what is left of an iterator over items; bounds and keys; where offsets and texts are wrong
pub use Rattle.arrow_check.specs.Pieces
pub use Rattle.arrow_check.specs.Items
pub use Rattle.arrow_check.specs.Bounds
pub use Rattle.arrow_check.specs.Indexes
pub use Rattle.arrow_check.specs.Places
-- text, the tests of text and what these read
pub use Rattle.arrow_check.specs.Utf8
pub use Rattle.arrow_check.specs.AsciiText
pub use Rattle.arrow_check.specs.Texts
pub use Rattle.arrow_check.specs.Windows
pub use Rattle.arrow_check.specs.Reading
-- columns of bytes and text, and what lies around their items; the two kinds of items
pub use Rattle.arrow_bytes.specs.Column as ByteColumn
pub use Rattle.arrow_bytes.specs.Pieces as Around
pub use Rattle.arrow_bytes.specs.Cuts
pub use Rattle.arrow_bytes.specs.Equality as ByteEquality
pub use Rattle.arrow_bytes.specs.Kinds
pub use Rattle.arrow_bytes.specs.Validation as ByteValidation
pub use Rattle.arrow_bytes.specs.Appends as ByteAppends
-- what filters, takes and concatenations choose
pub use Rattle.arrow_bytes.specs.Selection
pub use Rattle.arrow_bytes.specs.KeyedItems
-- arrays that kernels make of others slot by slot: comparisons, logic, arithmetic
pub use Rattle.compute_comparison.specs.Slots as MadeSlots
pub use Rattle.compute_comparison.specs.Comparison
pub use Rattle.compute_comparison.specs.Logic
pub use Rattle.compute_comparison.specs.Kleene
pub use Rattle.arrow_integers.specs.NativeArithmetics
pub use Rattle.compute_arithmetics.specs.Arithmetic
pub use Rattle.compute_cast.specs.Cast
pub use Rattle.compute_cast.specs.Decimals
pub use Rattle.compute_select.specs.Selects
pub use Rattle.compute_select.specs.Lengths
-- sums, least and greatest values; groups of equal slots; orders of slots, and what sorts them
pub use Rattle.compute_aggregate.specs.Aggregates
pub use Rattle.compute_aggregate.specs.Groups
pub use Rattle.compute_aggregate.specs.GroupSums
pub use Rattle.compute_group.specs.Grouping
pub use Rattle.compute_group.specs.Hashes
pub use Rattle.compute_sort.specs.declared.options.SortOptions
pub use Rattle.compute_sort.specs.declared.columns.SortColumn
pub use Rattle.compute_sort.specs.declared.columns.SortValues
pub use Rattle.compute_sort.specs.declared.columns.SortedValues
pub use Rattle.compute_sort.specs.Sort
pub use Rattle.compute_sort.specs.Columns as SortColumns
pub use Rattle.compute_sort.specs.Partition
