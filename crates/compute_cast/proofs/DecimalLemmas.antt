-- Lemmas about decimal texts: that of one digit, and one that is copied with bytes behind it, which are then removed.
use Rattle.std.proofs.Common.{◌≡◌, ◌∙◌, ℕ, zero, suc, pos, ◌+◌, ◌-◌, ◌<◌, List, [], ◌∷◌, ◌++◌, length, take, drop, refl, ap, ap₂, arith}
use Rattle.std.specs.Fmt.{digits, signed_decimal}
use Rattle.std.specs.Prelude.{slice_range}
use Rattle.std.proofs.Math.Seq.{take-append-add}
use Rattle.std.proofs.lemmas.List.{take-take, take_at}

pub text-cut : (old buffer text rest : List ℕ) (start end : ℕ) → drop start buffer ≡ text ++ rest
    → start + length text ≡ 20 → end ≡ length old + (20 - start)
    → take end (old ++ slice_range buffer start (start + 20)) ≡ old ++ text
text-cut old buffer text rest start end written same at =
    let n : end ≡ length old + length text = omega (arith, same, at) in
    let m : start + 20 - start ≡ 20 = omega arith in
    ap₂ (λ k piece. take k (old ++ piece)) n (ap₂ take m written)
    ∙ take-append-add old (take 20 (text ++ rest)) (length text)
    ∙ ap (λ xs. old ++ xs)
    (take-take (length text) 20 (text ++ rest) (omega (arith, same)) ∙ take_at text rest (length text) refl)

-- the text of a number of one digit
pub digit-text : (digit : ℕ) → digit < 10 → signed_decimal (pos digit) ≡ (48 + digit) ∷ []
unfolding digits
digit-text zero low = refl
digit-text (suc zero) low = refl
digit-text (suc (suc zero)) low = refl
digit-text (suc (suc (suc zero))) low = refl
digit-text (suc (suc (suc (suc zero)))) low = refl
digit-text (suc (suc (suc (suc (suc zero))))) low = refl
digit-text (suc (suc (suc (suc (suc (suc zero)))))) low = refl
digit-text (suc (suc (suc (suc (suc (suc (suc zero))))))) low = refl
digit-text (suc (suc (suc (suc (suc (suc (suc (suc zero)))))))) low = refl
digit-text (suc (suc (suc (suc (suc (suc (suc (suc (suc zero))))))))) low = refl
digit-text (suc (suc (suc (suc (suc (suc (suc (suc (suc (suc digit)))))))))) low = absurd (omega (arith, low))
