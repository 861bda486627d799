use Rattle.std.proofs.Common.{◌+◌, ◌-◌, ◌≡◌, ◌∙◌, ap, arith}
use Rattle.arrow_memory.specs.Offsets.{numbers_of}
use Rattle.arrow_memory.proofs.CallerLemmas.{length-numbers}
use Rattle.arrow_check.specs.Reading.{after_looks}
use Rattle.arrow_check.proofs.InnerLemmas.{inner-count}
use Rattle.arrow_check.proofs.text.is_cut_between.Goals as goal

pub returns-clause-counted : goal.returns-clause-counted
returns-clause-counted g c =
    let numbers = numbers_of g.O.Offset.number c.args.offsets.now in
    let long = length-numbers g.O.Offset.number c.args.offsets.now in
    let count = c.count_before-count.result in
    let last = c.last_number-end.ensures in
    let all = inner-count numbers count c.requires.legal.legal (omega (arith, long, c.count_before-count.ensures.inner))
    (λ k some few. omega (arith, last, c.count_before-count.ensures.before k some (omega arith)))
    (λ more. omega (arith, last, c.count_before-count.ensures.behind (count + 1) (omega arith) (omega arith))) in
    let from_one : count + 1 - 1 ≡ count = omega arith in
    c.all_begin_by_eights.ensures.counted ∙ ap (λ n. after_looks n (g.J.Judge.reading c.args.text.now)) (from_one ∙ all)
