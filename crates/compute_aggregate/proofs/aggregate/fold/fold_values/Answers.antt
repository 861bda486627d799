use Rattle.std.proofs.Common.{◌∙◌, ap, ap₂, arith, fold, sym}
use Rattle.std.proofs.lemmas.List.{take_all}
use Rattle.std.proofs.lemmas.List.Sums.{fold_more}
use Rattle.compute_aggregate.proofs.aggregate.fold.fold_values.Goals as goal

pub loop-i-preserved : goal.loop-i-preserved
loop-i-preserved g c =
    c.step-state.ensures ∙ ap₂ g.F.Folder.step c.loop-i.invariant c.index-values-i.is
    ∙ sym (fold_more g.F.Folder.step c.args.start c.args.values.now c.loop-i.i c.index-values-i.result (omega arith))

pub returns : goal.returns
returns g c = c.loop-i.invariant ∙ ap (fold g.F.Folder.step c.args.start) (take_all c.loop-i.i c.args.values.now (omega arith))
