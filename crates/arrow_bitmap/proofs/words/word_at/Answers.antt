use Rattle.std.proofs.Common.{◌≡◌, ◌+◌, ◌-◌, ◌*◌, ◌/◌, ◌%◌, ◌==◌, get_or, refl, inl, inr, ap, ◌∙◌, arith}
use Rattle.std.proofs.lemmas.Bool.{cases_lt}
use Rattle.arrow_bitmap.specs.Marks.{mark_at}
use Rattle.arrow_bitmap.proofs.ByteWords.{bit-mark}
use Rattle.arrow_bitmap.proofs.words.word_at.Goals as goal

pub returns-then-shift-eq0 : goal.returns-then-shift-eq0
returns-then-shift-eq0 c k low =
    c.whole_word-word.ensures k low ∙ ap (mark_at c.args.bytes.now) (let e : 8 * (c.args.place / 8) + k
    ≡ c.args.place + k = omega arith in e)

pub returns : goal.returns
returns c k low =
    let bytes = c.args.bytes.now in
    let shift = c.args.place % 8 in
    elim (cases_lt (shift + k) 64) [
      | inl inner ↦
          ap (λ b. b == 1) (c.moved_word.ensures.low k inner)
          ∙ c.whole_word-word.ensures (shift + k) inner
          ∙ ap (mark_at bytes) (let e : 8 * (c.args.place / 8) + (shift + k) ≡ c.args.place + k = omega arith in e)
      | inr past ↦
          ap (λ b. b == 1) (c.moved_word.ensures.high k low past)
          ∙ bit-mark bytes (c.args.place / 8 + 8) (get_or bytes (c.args.place / 8 + 8) 0) (shift + k - 64)
          (c.args.place + k) refl (omega arith) (omega arith)
    ]
