use Rattle.std.proofs.Common.{◌≡◌, ℕ, ◌<◌, ◌≤◌, [], get_or, length}
use Rattle.csv.specs.Records.{fields_of}
use Rattle.example_csv.specs.declared.read.NamedBuilder.{NamedBuilder}
use Rattle.example_csv.proofs.ReadLemmas.{GrowsNamed}
use Rattle.example_csv.proofs.read.push_record.Given as goal

abbrev pub invariant-loop-i : goal.invariant-loop-i
invariant-loop-i l =
    ((k : ℕ) (d : NamedBuilder) → k < l.i → GrowsNamed (get_or l.initial.column-items k d) (get_or l.column-items k d)
    (get_or (fields_of l.row) k []))
    × ((k : ℕ) (d : NamedBuilder) → l.i ≤ k → get_or l.column-items k d ≡ get_or l.initial.column-items k d)
