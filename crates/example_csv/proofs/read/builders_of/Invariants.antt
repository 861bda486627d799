use Rattle.std.proofs.Common.{◌≡◌, ◌≤◌, [], length, take}
use Rattle.csv.specs.Records.{fields_of}
use Rattle.example_csv.specs.Reading.{AreBuiltOf}
use Rattle.example_csv.proofs.read.builders_of.Given as goal

abbrev pub invariant-loop-header : goal.invariant-loop-header
invariant-loop-header l =
    (l.header-iterator.row.now ≡ l.headers)
    × (l.header-iterator.at ≡ length l.columns.items)
    × (length l.columns.items ≤ length (fields_of l.headers))
    × AreBuiltOf (take (length l.columns.items) (fields_of l.headers)) [] l.columns.items
