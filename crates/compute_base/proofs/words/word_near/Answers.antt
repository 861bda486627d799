use Rattle.std.proofs.Common.{◌≡◌, ◌-◌, ◌+◌, ◌==◌, Some, slice_get, ap, sym, ◌∙◌, arith}
use Rattle.arrow_types.proofs.CallerLemmas.{moved-bit}
use Rattle.compute_base.proofs.words.word_near.Goals as goal

pub returns : goal.returns
returns c k low within =
    let s = c.args.place - c.min-start.result in
    let at : c.args.place + k ≡ c.min-start.result + (s + k) = omega arith in
    ap (slice_get c.args.bitmap.now) at ∙ c.word.ensures (s + k) (omega arith)
    ∙ ap (λ bit. Some (bit == 1)) (sym (moved-bit c.word.result s k))
