use Rattle.std.proofs.Common.{◌≡◌, ◌*◌, ◌/◌, ◌∙◌, length, ap, arith, fold, sym, take, unwrap_or}
use Rattle.arrow_memory.specs.Rows.{slot}
use Rattle.compute_aggregate.specs.Folds.{values_or}
use Rattle.compute_aggregate.proofs.FoldLemmas.{folded_all, masked_more, word_more}
use Rattle.compute_aggregate.proofs.aggregate.fold.fold_masked.Goals as goal
use Rattle.compute_aggregate.proofs.aggregate.fold.fold_masked.Goals.{else-get_bit, then-get_bit}

pub loop-i-preserved : goal.loop-i-preserved
loop-i-preserved g c =
    word_more g.F.Folder.step c.args.start c.loop-i.state c.fold_word-state.result
    (values_or c.args.null c.args.values.now c.args.mask.now) c.loop-i.i c.loop-i.invariant c.fold_word-state.ensures

pub loop-k-init : goal.loop-k-init
loop-k-init g c =
    let all : 64 * c.loop-i.i ≡ 64 * (length c.args.values.now / 64) = omega arith in
    c.loop-i.invariant
    ∙ ap (λ n. fold g.F.Folder.step c.args.start (take n (values_or c.args.null c.args.values.now c.args.mask.now))) all

pub loop-k-preserved : goal.loop-k-preserved
loop-k-preserved g c =
    let value = c.index-values-k.result in
    let shown : c.if-get_bit.step ≡ unwrap_or (slot (value, c.get_bit.result)) c.args.null = elim c.if-get_bit.branch [
      | then-get_bit w ↦ w.step-is ∙ ap (λ m. unwrap_or (slot (value, m)) c.args.null) (sym w.if-get_bit.true)
      | else-get_bit w ↦ w.step-is ∙ ap (λ m. unwrap_or (slot (value, m)) c.args.null) (sym w.if-get_bit.false)
    ] in
    c.step-state.ensures
    ∙ masked_more g.F.Folder.step c.args.start c.loop-k.state c.args.null c.args.values.now c.args.mask.now 0
    c.loop-k.k c.loop-k.k value c.if-get_bit.step c.get_bit.result c.requires (omega arith) (omega arith)
    c.index-values-k.is c.get_bit.ensures shown c.loop-k.invariant

pub returns : goal.returns
returns g c = folded_all g.F.Folder.step c.args.start c.loop-k.state c.args.null c.args.values.now c.args.mask.now
    c.loop-k.k c.requires (omega arith) c.loop-k.invariant
