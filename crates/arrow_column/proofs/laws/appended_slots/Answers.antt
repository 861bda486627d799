use Rattle.std.proofs.Common.{◌++◌, false, None, ap, ◌∙◌, map}
use Rattle.std.proofs.lemmas.List.{map-append}
use Rattle.arrow_memory.specs.Rows.{rows_of, slot}
use Rattle.arrow_column.specs.Column.{slots_of}
use Rattle.arrow_column.proofs.SlotLemmas.{bare-slots, many-slots, null-slots, one-slot}
use Rattle.arrow_column.proofs.laws.appended_slots.Goals as goal

pub returns-clause-one : goal.returns-clause-one
returns-clause-one g c = λ default column shown. one-slot default column shown

pub returns-clause-many : goal.returns-clause-many
returns-clause-many g c = λ default column slots. many-slots default column slots

pub returns-clause-values : goal.returns-clause-values
returns-clause-values g c = λ column values.
    map-append slot column.rows (rows_of values None) ∙ ap (λ back. slots_of column ++ back) (bare-slots values)

pub returns-clause-nulls : goal.returns-clause-nulls
returns-clause-nulls g c = λ column values.
    map-append slot column.rows (map (λ value. (value, false)) values)
    ∙ ap (λ back. slots_of column ++ back) (null-slots values)
