use Rattle.std.proofs.Common.{◌++◌, ◌∷◌, [], ◌∙◌, ap, arith, None, take}
use Rattle.std.proofs.lemmas.List.{length-map, length-take-le, take_all, take_more}
use Rattle.std.proofs.lemmas.Option.{get_or_from_slice_get, slice_get_within}
use Rattle.arrow_memory.specs.Rows.{slot}
use Rattle.arrow_column.specs.Column.{slots_of}
use Rattle.arrow_column.proofs.laws.slots_in_order.Goals as goal

pub returns-clause-next : goal.returns-clause-next
returns-clause-next g c = λ column i shown at. take_more (slots_of column) i None (slice_get_within (slots_of column) i shown at)
    ∙ ap (λ y. take i (slots_of column) ++ y ∷ []) (get_or_from_slice_get (slots_of column) i shown None at)

pub returns-clause-count : goal.returns-clause-count
returns-clause-count g c = λ column i within. length-take-le i (slots_of column) (omega (arith, within, length-map column.rows slot))

pub returns-clause-all : goal.returns-clause-all
returns-clause-all g c = λ column i past. take_all i (slots_of column) (omega (arith, past, length-map column.rows slot))
