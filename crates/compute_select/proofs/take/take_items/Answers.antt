use Rattle.std.proofs.Common.{◌∙◌, ap}
use Rattle.arrow_types.specs.Types.{logical_type}
use Rattle.arrow_types.proofs.CallerLemmas.{on-residual}
use Rattle.arrow_bytes.specs.Pieces.{Pieces}
use Rattle.compute_select.specs.Selects.{ItemsNotTaken, items_shown, slots_taken}
use Rattle.compute_select.proofs.ItemLemmas.{items-refused, items-within, stores-items}
use Rattle.compute_select.proofs.ShownLemmas.{fits-shown, made-shown}
use Rattle.compute_select.proofs.take.take_items.Goals as goal

pub returns-in_err-values-clause-err : goal.returns-in_err-values-clause-err
returns-in_err-values-clause-err g c =
    let slots = slots_taken g.I.IndexKey.number c.args.array.now c.args.keys.now in
    on-residual c.from_residual-in_err-values.result c.in_err-values.field-0.0
    (λ e. ItemsNotTaken g.O.Offset.most g.I.IndexKey.number c.args.array.now c.args.keys.now e)
    c.from_residual-in_err-values.ensures.1
    (λ none. items-refused g.O.Offset.most slots c.in_err-values.field-0.0 c.in_err-values.ensures.err)

pub from_byte_values-requires-clause-mask : goal.from_byte_values-requires-clause-mask
from_byte_values-requires-clause-mask g c =
    let slots = slots_taken g.I.IndexKey.number c.args.array.now c.args.keys.now in
    fits-shown slots _ (items_shown slots) _ (ap (λ (p : Pieces). p.items) c.in_ok-values.ensures.ok)
    c.in_ok-mask.ensures.ok (stores-items slots)

pub returns-clause-ok : goal.returns-clause-ok
returns-clause-ok g c =
    let slots = slots_taken g.I.IndexKey.number c.args.array.now c.args.keys.now in (
      items-within g.O.Offset.most slots c.in_ok-values.ensures.fits,
      made-shown (logical_type c.in_ok-data_type.data_type) c.args.array.now.data_type _ slots _ (items_shown slots) _ _
          c.from_byte_values.ensures (c.in_ok-data_type.ensures.cases ∙ c.data_type.ensures.value)
          (ap (λ (p : Pieces). p.items) c.in_ok-values.ensures.ok) c.in_ok-mask.ensures.ok (stores-items slots),
    )
