use Rattle.std.proofs.Common.{length, sym, ◌∙◌}
use Rattle.example_nested.proofs.DictionaryLemmas.{checked-keys, null-keys}
use Rattle.example_nested.proofs.dictionary.DictionaryArray.try_new.Goals.{then-null_count-len+in_ok-check_indexes}
use Rattle.example_nested.proofs.dictionary.DictionaryArray.try_new.Goals.{else-null_count-len}
use Rattle.example_nested.proofs.dictionary.DictionaryArray.try_new.Goals as goal

pub invariant_of-result : goal.invariant_of-result
invariant_of-result g c =
    let number = g.K.IndexKey.number in
    let n = length (g.A.InnerArray.slots c.args.values) in
    elim c.if-null_count-len.branch [
      | then-null_count-len+in_ok-check_indexes w ↦ checked-keys number n c.args.keys
          (rw (← w.values.ensures, ← w.as_slice.ensures, ← w.len-then-null_count-len.ensures)
          w.in_ok-check_indexes.ensures.ok)
      | else-null_count-len w ↦ null-keys number n c.args.keys
          (sym c.null_count.ensures ∙ w.if-null_count-len.false ∙ c.len.ensures)
    ]
