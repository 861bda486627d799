use Rattle.std.proofs.Common.{◌≡◌, map, take, drop, ap, ap₂, ◌∙◌, sym}
use Rattle.std.proofs.lemmas.List.{take-map, drop-map}
use Rattle.arrow_types.proofs.CallerLemmas.{piece-piece}
use Rattle.arrow_column.specs.Column.{stored_values}
use Rattle.arrow_column.proofs.laws.cut_of_cut.Goals as goal

pub returns : goal.returns
returns g c = λ column a n b m within.
    let stored : map (λ row. row.0) (take n (drop a column.rows)) ≡ take n (drop a (stored_values column)) =
    sym (ap (take n) (drop-map (λ row. row.0) a column.rows) ∙ take-map (λ row. row.0) n (drop a column.rows)) in
    ap₂ (λ around rows. record column { around = around; rows = rows })
    (
    ap (λ values. g.V.Values.cut_around (g.V.Values.cut_around column.around (stored_values column) a n) values b m)
    stored
    ∙ g.met.V.Values.cut_twice column.around (stored_values column) a n b m within
    )
    (piece-piece column.rows a n b m within)
