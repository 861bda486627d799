use Rattle.std.proofs.Common.{Some, ap, not, ◌∙◌}
use Rattle.compute_select.proofs.ItemLemmas.{null-item, valid-item}
use Rattle.compute_select.proofs.items.shown_item.Goals as goal

pub returns-then-is_null-clause-value : goal.returns-then-is_null-clause-value
returns-then-is_null-clause-value g c = null-item c.args.array.now.rows c.args.i
    (c.is_null.ensures ∙ ap (λ b. Some (not b)) c.if-is_null.true)

pub returns-else-is_null-clause-value : goal.returns-else-is_null-clause-value
returns-else-is_null-clause-value g c = valid-item c.args.array.now.rows c.args.i c.item.result.now
    (c.is_null.ensures ∙ ap (λ b. Some (not b)) c.if-is_null.false) c.item.ensures.value
