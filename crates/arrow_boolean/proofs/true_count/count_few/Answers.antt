use Rattle.std.proofs.Common.{◌≡◌, ℕ, ap, arith, cond, count_by, length, take, ◌∙◌}
use Rattle.std.proofs.Math.Seq.{take-length}
use Rattle.arrow_column.specs.Combined.{set_in_both}
use Rattle.arrow_column.proofs.CallerLemmas.{length-both}
use Rattle.arrow_boolean.proofs.TruthLemmas.{count-more}
use Rattle.arrow_boolean.proofs.true_count.count_few.Goals as goal
use Rattle.arrow_boolean.proofs.true_count.count_few.Goals.{then-is_set_in_both, else-is_set_in_both}

pub loop-i-preserved : goal.loop-i-preserved
loop-i-preserved c =
    let more = count-more (set_in_both c.args.values.now c.args.validity.now) c.loop-i.i c.is_set_in_both.result
    c.is_set_in_both.ensures in
    elim c.if-is_set_in_both.branch [
      | then-is_set_in_both w ↦ omega (
        arith,
        w.count-is,
        c.loop-i.invariant,
        more,
        ap {B = ℕ} (λ mark. cond mark 1 0) w.if-is_set_in_both.true,
      )
      | else-is_set_in_both w ↦ omega (
        arith,
        w.count-is,
        c.loop-i.invariant,
        more,
        ap {B = ℕ} (λ mark. cond mark 1 0) w.if-is_set_in_both.false,
      )
    ]

pub returns : goal.returns
returns c =
    let both = set_in_both c.args.values.now c.args.validity.now in
    let all : c.loop-i.i ≡ length both = omega (
      arith,
      c.loop-i-test.false,
      c.loop-i.auto.i-end,
      c.len-i-end.ensures,
      length-both c.args.values.now c.args.validity.now c.requires,
    ) in
    c.loop-i.invariant ∙ ap (λ n. count_by (λ mark. mark) (take n both)) all
    ∙ ap (count_by (λ mark. mark)) (take-length both)
