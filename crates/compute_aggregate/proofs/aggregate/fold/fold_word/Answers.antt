use Rattle.std.proofs.Common.{◌≡◌, ◌+◌, ◌-◌, ◌∙◌, Some, ap, arith, drop, fold, sym, take, unwrap_or}
use Rattle.arrow_memory.specs.Rows.{slot}
use Rattle.compute_aggregate.specs.Folds.{values_or}
use Rattle.compute_aggregate.proofs.FoldLemmas.{masked_more, part_at}
use Rattle.compute_aggregate.proofs.aggregate.fold.fold_word.Goals as goal
use Rattle.compute_aggregate.proofs.aggregate.fold.fold_word.Goals.{else-is_set, then-is_set}

pub loop-i-preserved : goal.loop-i-preserved
loop-i-preserved g c =
    let value = c.index-part-i.result in
    let shown : c.if-is_set.step ≡ unwrap_or (slot (value, c.is_set.result)) c.args.null = elim c.if-is_set.branch [
      | then-is_set w ↦ w.step-is ∙ ap (λ m. unwrap_or (slot (value, m)) c.args.null) (sym w.if-is_set.true)
      | else-is_set w ↦ w.step-is ∙ ap (λ m. unwrap_or (slot (value, m)) c.args.null) (sym w.if-is_set.false)
    ] in
    c.step-state.ensures
    ∙ masked_more g.F.Folder.step c.args.start c.loop-i.state c.args.null c.args.values.now c.args.mask.now c.args.place
    c.loop-i.i (c.args.place + c.loop-i.i) value c.if-is_set.step c.is_set.result c.requires.same (omega arith) (omega arith)
    (part_at c.args.values.now c.args.place (c.args.place + 64 - c.args.place) c.loop-i.i value (omega arith) c.index-part-i.is)
    (c.word-word.ensures c.loop-i.i c.loop-i-test.true ∙ ap Some (sym c.is_set.ensures)) shown c.loop-i.invariant

pub returns : goal.returns
returns g c =
    let all : c.loop-i.i ≡ 64 = omega arith in
    c.loop-i.invariant
    ∙ ap (λ n. fold g.F.Folder.step c.args.start (take n (drop c.args.place (values_or c.args.null c.args.values.now c.args.mask.now)))) all
