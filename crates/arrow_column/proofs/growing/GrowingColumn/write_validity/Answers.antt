use Rattle.std.proofs.Common.{sym, ap, ◌∙◌}
use Rattle.std.proofs.Output.{displays_on_ok_of_eq}
use Rattle.arrow_column.specs.Column.{mask_of}
use Rattle.arrow_column.specs.SlotText.{validity_text}
use Rattle.arrow_column.proofs.RowLemmas.{mask-rows}
use Rattle.arrow_column.proofs.growing.GrowingColumn.write_validity.Goals as goal

pub returns : goal.returns
returns g c =
    let self = c.self.inside in
    let held = ap mask_of (sym c.self.view_is)
    ∙ sym (mask-rows (g.V.StoredValues.stored self.values) self.validity c.self.invariant) in
    displays_on_ok_of_eq g.W.Write.write_str_gives c.args.f.now c.write_mask.new.f c.write_mask.result
    (validity_text self.validity) (validity_text (mask_of c.args.self.now)) (ap validity_text (sym held)) c.write_mask.ensures
