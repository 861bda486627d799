use Rattle.std.proofs.Common.{◌≡◌, ◌-◌, ap, arith, count_by, drop, length, sym, ◌∙◌}
use Rattle.std.proofs.Math.Seq.{drop-length}
use Rattle.arrow_column.specs.Combined.{set_in_both}
use Rattle.arrow_column.proofs.CallerLemmas.{length-both}
use Rattle.arrow_boolean.proofs.TruthLemmas.{count-last}
use Rattle.arrow_boolean.proofs.true_count.count_last.Goals as goal

pub returns-then-from-len : goal.returns-then-from-len
returns-then-from-len c =
    let both = set_in_both c.args.values.now c.args.validity.now in
    let all : c.args.from ≡ length both = omega (
      arith,
      c.if-from-len.true,
      c.len.ensures,
      length-both c.args.values.now c.args.validity.now c.requires.same,
    ) in
    sym (ap (λ n. count_by (λ mark. mark) (drop n both)) all ∙ ap (count_by (λ mark. mark)) (drop-length both))

pub returns : goal.returns
returns c =
    count-last c.args.values.now c.args.validity.now (c.len-place.result - 64) c.args.from c.word.result
    c.word-2.result c.word.type_inv c.requires.same (omega (arith, c.len-place.ensures, c.requires.long))
    (omega (arith, c.len-place.ensures, c.requires.few)) c.requires.within c.word.ensures c.word-2.ensures
