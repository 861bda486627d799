use Rattle.std.proofs.Common.{◌≡◌, ℕ, ◌+◌, ◌<◌, drop, get_or, length}
use Rattle.std.specs.Vec.Iter.{into_iter_items, into_iter_len}
use Rattle.example_record_batch.specs.declared.batch.Field.{Field}
use Rattle.example_csv.specs.declared.read.NamedBuilder.{NamedBuilder}
use Rattle.example_csv.proofs.ReadLemmas.{Freezes}
use Rattle.example_csv.proofs.read.freeze.Given as goal

abbrev pub invariant-loop-column : goal.invariant-loop-column
invariant-loop-column l =
    (into_iter_items l.column-iterator ≡ drop (length l.fields.items) l.fn.columns.items)
    × (into_iter_len l.column-iterator + length l.fields.items ≡ length l.fn.columns.items)
    × ((i : ℕ) (d : NamedBuilder) (e : Field) → i < length l.fields.items
    → Freezes (get_or l.fn.columns.items i d) (get_or l.fields.items i e))
