use Rattle.std.proofs.Common.{◌∙◌, None, Some, ap, arith, false, if◌then◌else◌, sym}
use Rattle.arrow_column.proofs.CallerLemmas.{slot-at}
use Rattle.arrow_column.specs.Column.{slots_of}
use Rattle.compute_aggregate.proofs.FoldLemmas.{masked_mark, none_valid, valid_at}
use Rattle.compute_aggregate.proofs.aggregate.numbers.first_valid.Goals as goal
use Rattle.compute_aggregate.proofs.aggregate.numbers.first_valid.Goals.{in-None, in-Some}

pub loop-i-init : goal.loop-i-init
loop-i-init g c = λ k low. elim c.match-validity.branch [
  | in-None w ↦ absurd (omega (arith, w.first-is, low))
  | in-Some w ↦ masked_mark c.args.array.now w.in-Some.mask.now k false (sym w.in-Some.ensures.mask)
      (w.skip_clear_words-first.ensures k (omega (arith, w.first-is, low)))
]

pub returns-then-is_valid : goal.returns-then-is_valid
returns-then-is_valid g c = valid_at (slots_of c.args.array.now) c.loop-i.i c.value.result
    (slot-at c.args.array.now.rows c.loop-i.i c.value.result c.is_valid.result c.value.ensures c.is_valid.ensures
    ∙ ap (λ mark. Some (if mark then Some c.value.result else None)) c.if-is_valid.true)

pub returns : goal.returns
returns g c = none_valid c.args.array.now.rows (λ k low. c.loop-i.invariant k (omega (arith, low, c.len-i-end.ensures)))
