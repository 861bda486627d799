use Rattle.std.proofs.Common.{◌∙◌, ap}
use Rattle.arrow_types.specs.Types.{logical_type}
use Rattle.arrow_types.proofs.CallerLemmas.{on-residual}
use Rattle.arrow_bytes.specs.Pieces.{Pieces}
use Rattle.compute_select.specs.Selects.{RefusesItems, items_shown, slots_chosen}
use Rattle.compute_select.proofs.ItemLemmas.{items-refused, items-within, stores-items}
use Rattle.compute_select.proofs.ShownLemmas.{fits-shown, made-shown}
use Rattle.compute_select.proofs.if_then_else.if_then_else_items.Goals as goal

pub returns-in_err-values-clause-err : goal.returns-in_err-values-clause-err
returns-in_err-values-clause-err g c =
    let slots = slots_chosen c.args.predicate.now c.args.lhs.now c.args.rhs.now in
    on-residual c.from_residual.result c.in_err-values.field-0.0 (λ e. RefusesItems g.O.Offset.most slots e)
    c.from_residual.ensures.1
    (items-refused g.O.Offset.most slots c.in_err-values.field-0.0 c.in_err-values.ensures.err)

pub from_byte_values-requires-clause-mask : goal.from_byte_values-requires-clause-mask
from_byte_values-requires-clause-mask g c =
    let slots = slots_chosen c.args.predicate.now c.args.lhs.now c.args.rhs.now in
    fits-shown slots _ (items_shown slots) _ (ap (λ (p : Pieces). p.items) c.in_ok-values.ensures.ok)
    c.in_ok-mask.ensures.ok (stores-items slots)

pub returns-clause-ok : goal.returns-clause-ok
returns-clause-ok g c =
    let slots = slots_chosen c.args.predicate.now c.args.lhs.now c.args.rhs.now in (
      items-within g.O.Offset.most slots c.in_ok-values.ensures.fits,
      made-shown (logical_type c.in_ok-data_type.data_type) c.args.lhs.now.data_type _ slots _ (items_shown slots) _ _
          c.from_byte_values.ensures (c.in_ok-data_type.ensures.cases ∙ c.data_type.ensures.value)
          (ap (λ (p : Pieces). p.items) c.in_ok-values.ensures.ok) c.in_ok-mask.ensures.ok (stores-items slots),
    )
