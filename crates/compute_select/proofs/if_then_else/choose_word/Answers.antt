use Rattle.std.proofs.Common.{◌++◌, ◌<◌, ◌==◌, ◌∙◌, ap, arith, if◌then◌else◌, length, Some, sym}
use Rattle.std.specs.Int.{bit_at}
use Rattle.std.proofs.lemmas.List.{length_push, take_all}
use Rattle.std.proofs.lemmas.Option.{slice_get-get_or}
use Rattle.arrow_memory.specs.Marks.{bits_of}
use Rattle.arrow_memory.proofs.CallerLemmas.{length-bits}
use Rattle.compute_select.specs.Selects.{chosen_values}
use Rattle.compute_base.proofs.CallerLemmas.{bits-at}
use Rattle.compute_select.proofs.ChoiceLemmas.{chosen-at, length-chosen, next-behind}
use Rattle.compute_select.proofs.if_then_else.choose_word.Goals as goal

pub loop-i-preserved : goal.loop-i-preserved
loop-i-preserved g c =
    let xs = c.args.lhs.now in
    let ys = c.args.rhs.now in
    let bits = bits_of c.args.predicate (length xs) in
    let i = c.loop-i.i in
    let low : i < length xs = c.loop-i-test.true in
    let x = c.index-lhs-i.result in
    let y = c.index-rhs-i.result in
    let at = chosen-at bits xs ys i (bit_at c.args.predicate i == 1) x y (bits-at c.args.predicate (length xs) i low)
    (slice_get-get_or xs i x low ∙ ap Some (sym c.index-lhs-i.is))
    (slice_get-get_or ys i y (omega (arith, low, c.requires.same)) ∙ ap Some (sym c.index-rhs-i.is))
    ∙ ap Some (sym (c.choose.ensures ∙ ap (λ b. if b then x else y) c.is_set.ensures)) in
    record {
      values = c.push_reserved.ensures.items
          ∙ next-behind c.args.values.now.items (chosen_values bits xs ys) c.loop-i.values.items i c.choose.result at
          c.loop-i.invariant.values;
      len = ap length c.push_reserved.ensures.items ∙ length_push c.loop-i.values.items c.choose.result
          ∙ omega (arith, c.loop-i.invariant.len);
      room = c.push_reserved.ensures.capacity ∙ c.loop-i.invariant.room;
    }

pub returns-clause-values : goal.returns-clause-values
returns-clause-values g c =
    let bits = bits_of c.args.predicate (length c.args.lhs.now) in
    c.loop-i.invariant.values
    ∙ ap (λ rest. c.args.values.now.items ++ rest)
    (take_all c.loop-i.i (chosen_values bits c.args.lhs.now c.args.rhs.now) (omega (
      arith,
      length-chosen bits c.args.lhs.now c.args.rhs.now,
      length-bits c.args.predicate (length c.args.lhs.now),
    )))
