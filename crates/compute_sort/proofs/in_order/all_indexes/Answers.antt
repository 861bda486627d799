use Rattle.std.proofs.Common.{◌∙◌, ◌++◌, [], ◌∷◌, ap, sym}
use Rattle.arrow_types.proofs.CallerLemmas.{range-more}
use Rattle.compute_sort.proofs.in_order.all_indexes.Goals as goal

pub loop-i-preserved : goal.loop-i-preserved
loop-i-preserved c =
    c.in_ok-push.ensures.items ∙ ap (λ xs. xs ++ c.loop-i.i ∷ []) c.loop-i.invariant ∙ sym (range-more c.loop-i.i)
