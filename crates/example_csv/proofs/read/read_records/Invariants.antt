use Rattle.std.proofs.Common.{◌≡◌, ◌∷◌, ℕ, List, Some, false, length}
use Rattle.csv.specs.Reading.{Reached, Ready, default_config, is_flexible, source_of, strip_bom}
use Rattle.csv.specs.declared.parser.State.TheVariants as st
use Rattle.csv.specs.declared.reader.Trim.TheVariants as trim
use Rattle.example_csv.specs.Reading.{AreBuiltOf}
use Rattle.example_csv.proofs.read.read_records.Given as goal

abbrev pub invariant-loop-height : goal.invariant-loop-height
invariant-loop-height g l =
    (l.reader.trim ≡ trim.None) × Ready l.reader × (l.reader.config ≡ default_config) × (is_flexible l.reader ≡ false)
    × (headers : List (List ℕ)) × (rows : List (List (List ℕ))) × (length rows ≡ l.height)
    × (l.reader.expected ≡ Some (length headers)) × AreBuiltOf headers rows l.columns.items
    × ((text : List ℕ) → source_of g.R.Read.remaining l.fn.reader ≡ Some (strip_bom text) → (rest : List ℕ)
    × (source_of g.R.Read.remaining l.reader ≡ Some rest)
    × Reached default_config st.StartRecord (strip_bom text) (headers ∷ rows) l.reader.state rest)
