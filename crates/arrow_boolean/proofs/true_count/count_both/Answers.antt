use Rattle.std.proofs.Common.{◌≡◌, ◌+◌, ◌*◌, ◌/◌, ap, arith, count_by, take}
use Rattle.std.proofs.lemmas.List.Sums.{count_by-le-length}
use Rattle.arrow_column.specs.Combined.{set_in_both}
use Rattle.arrow_column.proofs.CallerLemmas.{length-both}
use Rattle.arrow_boolean.proofs.TruthLemmas.{count-both-word, count-first, count-parts}
use Rattle.arrow_boolean.proofs.true_count.count_both.Goals as goal

pub overflow_add-count : goal.overflow_add-count
overflow_add-count c =
    let values = c.args.values.now in
    let marks = c.args.validity.now in
    let more = count-both-word values marks (64 * c.loop-at.at) c.word.result c.word-in-loop-at.result c.word.type_inv
    c.word.ensures c.word-in-loop-at.ensures in
    omega (
      arith,
      c.loop-at.invariant,
      more,
      count-first (set_in_both values marks) (64 * c.loop-at.at + 64),
      length-both values marks c.requires,
      c.len-words.ensures,
      c.len-words.type_inv,
    )

pub loop-at-preserved : goal.loop-at-preserved
loop-at-preserved c =
    let values = c.args.values.now in
    let marks = c.args.validity.now in
    let more = count-both-word values marks (64 * c.loop-at.at) c.word.result c.word-in-loop-at.result c.word.type_inv
    c.word.ensures c.word-in-loop-at.ensures in
    let next : 64 * c.loop-at.at + 64 ≡ 64 * (c.loop-at.at + 1) = omega arith in
    omega (
      arith,
      c.loop-at.invariant,
      more,
      ap (λ n. count_by (λ mark. mark) (take n (set_in_both values marks))) next,
    )

pub overflow_add-result : goal.overflow_add-result
overflow_add-result c =
    let both = set_in_both c.args.values.now c.args.validity.now in
    let all : c.loop-at.at ≡ c.len-words.result / 64 = omega (arith, c.loop-at-test.false, c.loop-at.auto.at-end) in
    omega (
      arith,
      c.loop-at.invariant,
      ap (λ n. count_by (λ mark. mark) (take (64 * n) both)) all,
      c.count_last.ensures,
      count-parts both (64 * (c.len-words.result / 64)),
      count_by-le-length (λ mark. mark) both,
      length-both c.args.values.now c.args.validity.now c.requires,
      c.len-words.ensures,
      c.len-words.type_inv,
    )

pub returns : goal.returns
returns c =
    let both = set_in_both c.args.values.now c.args.validity.now in
    let all : c.loop-at.at ≡ c.len-words.result / 64 = omega (arith, c.loop-at-test.false, c.loop-at.auto.at-end) in
    omega (
      arith,
      c.loop-at.invariant,
      ap (λ n. count_by (λ mark. mark) (take (64 * n) both)) all,
      c.count_last.ensures,
      count-parts both (64 * (c.len-words.result / 64)),
    )
