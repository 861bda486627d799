-- Takes of arrays and batches, and the order of the slots of an array.
use Rattle.std.specs.Prelude.{ℕ, pos, Bool, List, Option, length, map}
use Rattle.std.specs.Ordering.{bool_cmp, int_cmp}
use Rattle.std.specs.declared.cmp.Ordering.{Ordering}
use Rattle.dethrugn.specs.Aggregates.{text_cmp}
use Rattle.dethrugn.specs.Column.{slots_of}
use Rattle.dethrugn.specs.Around.{nothing_around}
use Rattle.dethrugn.specs.Selection.{taken}
use Rattle.dethrugn.specs.Sort.{default_options, index_order, slot_order}
use Rattle.example_record_batch.specs.declared.any.AnyArray.{AnyArray}
use Rattle.example_record_batch.specs.declared.any.AnyArray.TheVariants.{Int64, Boolean, Binary, Utf8}
use Rattle.example_record_batch.specs.Batches.{Batch, Named}

-- the slots at indexes
abbrev pub any_taken : AnyArray → List ℕ → AnyArray
any_taken (Int64 column) indexes = Int64 (taken tt (λ key. pos key) column indexes)
any_taken (Boolean column) indexes = Boolean (taken tt (λ key. pos key) column indexes)
any_taken (Binary column) indexes = Binary (taken nothing_around (λ key. pos key) column indexes)
any_taken (Utf8 column) indexes = Utf8 (taken nothing_around (λ key. pos key) column indexes)

-- the slots of a column at indexes, under the same name
abbrev pub named_taken : List ℕ → Named → Named
named_taken indexes column = record column { array = any_taken column.array indexes }

-- the rows at indexes
abbrev pub batch_taken : Batch → List ℕ → Batch
batch_taken batch indexes = record { rows = length indexes; columns = map (named_taken indexes) batch.columns }

-- the order of two indexes: that of the slots there, descending or not, with nulls first or last, and of equal slots
-- that of the indexes
abbrev pub slots_order : {X : Type 0} → (X → X → Ordering) → Bool → Bool → List (Option X) → ℕ → ℕ → Ordering
slots_order cmp descending nulls_first =
    index_order (slot_order (record default_options { descending = descending; nulls_first = nulls_first }) cmp)

-- the order of two indexes by an array of any kind: numbers by their own order, false before true, bytes and text by
-- their bytes
abbrev pub any_order : AnyArray → Bool → Bool → ℕ → ℕ → Ordering
any_order (Int64 column) descending nulls_first = slots_order int_cmp descending nulls_first (slots_of column)
any_order (Boolean column) descending nulls_first = slots_order bool_cmp descending nulls_first (slots_of column)
any_order (Binary column) descending nulls_first = slots_order text_cmp descending nulls_first (slots_of column)
any_order (Utf8 column) descending nulls_first = slots_order text_cmp descending nulls_first (slots_of column)
