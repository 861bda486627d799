use Rattle.std.proofs.Common.{◌+◌, ◌==◌, ◌∙◌, ap, false, slice_get, Some, sym}
use Rattle.std.specs.Int.{bit_at}
use Rattle.arrow_types.proofs.CallerLemmas.{and-bit}
use Rattle.compute_select.specs.Selects.{values_at_keys}
use Rattle.compute_select.proofs.KeyLemmas.{key-mark-at}
use Rattle.compute_select.proofs.take.TakenMarksMarkWords.word.Goals as goal

pub returns : goal.returns
returns g c k low =
    let number = g.K.IndexKey.number in
    let marks = c.args.self.now.marks.now in
    let mark = c.marks_word.result in
    let found = c.word.result in
    key-mark-at number marks c.args.self.now.keys.now.rows (c.args.place + k) (bit_at mark k == 1) (bit_at found k == 1)
    (c.marks_word.ensures k low)
    (ap (λ keys. slice_get (values_at_keys number false marks keys) (c.args.place + k))
    (sym (c.as_slice.ensures ∙ c.values.ensures)) ∙ c.word.ensures k low)
    ∙ ap Some (sym (and-bit mark found k))
