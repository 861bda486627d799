use Rattle.std.proofs.Common.{◌≡◌, ◌++◌, ap, arith, sym, ◌∙◌}
use Rattle.std.proofs.lemmas.List.{append-nil}
use Rattle.arrow_memory.specs.Marks.{bits_of}
use Rattle.arrow_kernels.proofs.BitLemmas.{where-word}
use Rattle.arrow_kernels.proofs.filter_marks.filter_some_marks.Goals as goal
use Rattle.arrow_kernels.proofs.filter_marks.filter_some_marks.Goals.{then-count-gt0+in_ok-extend_from_word, else-count-gt0}

pub loop-row-preserved : goal.loop-row-preserved
loop-row-preserved c =
    let selected = c.args.selected.now in
    let marks = c.args.marks.now in
    let row = c.loop-row.row in
    let some = c.min-some.result in
    let bits = c.filtered_word-bits.result.0 in
    let count = c.filtered_word-bits.result.1 in
    let added : c.if-count-gt0.kept ≡ c.loop-row.kept ++ bits_of bits count = elim c.if-count-gt0.branch [
      | then-count-gt0+in_ok-extend_from_word w ↦ w.kept-is ∙ w.in_ok-extend_from_word.ensures.ok
      | else-count-gt0 w ↦
          let none : count ≡ 0 = omega (arith, w.if-count-gt0.false) in
          w.kept-is ∙ sym (ap (λ n. c.loop-row.kept ++ bits_of bits n) none ∙ append-nil c.loop-row.kept)
    ] in
    record {
      len = c.loop-row.invariant.len;
      within = omega arith;
      so_far = where-word selected marks c.loop-row.kept c.if-count-gt0.kept row some c.word.result c.word_of.result bits
          count c.requires (omega arith) (omega arith) c.word.ensures.marks c.word.ensures.small c.word_of.ensures
          c.filtered_word-bits.ensures.bits c.loop-row.invariant.so_far added;
    }
