-- Lemmas on hexadecimal digits that are written two at a time.
use Rattle.std.proofs.Common.{◌≡◌, ℕ, ◌+◌, ◌/◌, ◌%◌, ◌<◌, ◌≤◌, List, [], ◌∷◌, ◌++◌, length, drop, slice_index}
use Rattle.std.proofs.Common.{refl, sym, ap, ◌∙◌, append_assoc, append-nil}
use Rattle.std.proofs.lemmas.List.{at_drop_all}
use Rattle.hex.specs.Hex.{encode_lower, encode_with, lower_digits}
use Rattle.hex.proofs.Pairs.{encode_with-drop}

no_digits : encode_lower [] ≡ []
unfolding encode_with
no_digits = refl

-- the digits of one byte more
pub one_byte : (bytes old mid new whole : List ℕ) (i high low : ℕ) → i < length bytes
    → high ≡ slice_index lower_digits (slice_index bytes i / 16)
    → low ≡ slice_index lower_digits (slice_index bytes i % 16)
    → mid ≡ old ++ high ∷ [] → new ≡ mid ++ low ∷ []
    → old ++ encode_lower (drop i bytes) ≡ whole → new ++ encode_lower (drop (i + 1) bytes) ≡ whole
one_byte bytes old mid new whole i high low within h l m n all =
    let rest = encode_lower (drop (i + 1) bytes) in
    let front : new ≡ old ++ high ∷ low ∷ [] = n ∙ ap (λ text. text ++ low ∷ []) m
    ∙ append_assoc old (high ∷ []) (low ∷ []) in
    let here : high ∷ low
    ∷ rest ≡ encode_lower (drop i bytes) = rw (h, l) (sym (encode_with-drop lower_digits bytes i within)) in
    ap (λ text. text ++ rest) front ∙ append_assoc old (high ∷ low ∷ []) rest ∙ ap (λ text. old ++ text) here ∙ all

-- no byte is left
pub all_bytes : (bytes text whole : List ℕ) (i : ℕ) → length bytes ≤ i → text ++ encode_lower (drop i bytes) ≡ whole
    → text ≡ whole
all_bytes bytes text whole i past all =
    sym (append-nil text) ∙ ap (λ rest. text ++ rest) (sym (at_drop_all encode_lower bytes i past ∙ no_digits)) ∙ all
