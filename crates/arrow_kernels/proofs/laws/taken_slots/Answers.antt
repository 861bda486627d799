use Rattle.std.proofs.Common.{refl, sym, ap, ◌∙◌, slice_get}
use Rattle.std.proofs.lemmas.List.{length-map}
use Rattle.arrow_memory.specs.Rows.{slot}
use Rattle.arrow_column.specs.Column.{slots_of}
use Rattle.arrow_kernels.proofs.ChoiceLemmas.{keys-map}
use Rattle.arrow_kernels.proofs.LawLemmas.{key-slot, length-keys}
use Rattle.arrow_kernels.proofs.laws.taken_slots.Goals as goal

pub returns-clause-slots : goal.returns-clause-slots
returns-clause-slots g c = λ nothing number column keys. sym (keys-map slot number keys column.rows)

pub returns-clause-values : goal.returns-clause-values
returns-clause-values g c = λ nothing number column keys. sym (keys-map (λ row. row.0) number keys column.rows)

pub returns-clause-count : goal.returns-clause-count
returns-clause-count g c = λ nothing number column keys none. length-keys number column.rows _ refl keys none

pub returns-clause-slot : goal.returns-clause-slot
returns-clause-slot g c = λ nothing number column keys none i key there.
    ap (λ slots. slice_get slots i) (sym (keys-map slot number keys column.rows))
    ∙ key-slot number (slots_of column) _ (sym (length-map column.rows slot)) keys i key none there
