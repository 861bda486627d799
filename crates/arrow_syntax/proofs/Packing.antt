-- Lemmas on packed bits.
use Rattle.std.proofs.Common.{◌≡◌, ◌∙◌, ap, sym, ℕ, zero, suc, ◌+◌, ◌-◌, ◌*◌, ◌<◌, ◌≤◌, Bool, true, false, List}
use Rattle.std.proofs.Common.{[], ◌∷◌, ◌++◌, length, map, take, drop, min, arith}
use Rattle.std.proofs.lemmas.List.{take_min, take_rest}
use Rattle.std.proofs.lemmas.List.FromFn.{map-range_with_len_more}
use Rattle.std.specs.List.{range_with_len}
use Rattle.arrow_syntax.specs.Fields.{byte_of}

-- a number above all numbers of a number of bits
abbrev above : ℕ → ℕ
above zero = 1
above (suc k) = 2 * above k

above_zero : (k : ℕ) → 0 < above k
above_zero zero = omega arith
above_zero (suc k) = omega (arith, above_zero k)

pub byte_below : (k : ℕ) (bits : List Bool) → length bits ≤ k → byte_of bits < above k
byte_below k [] h = above_zero k
byte_below zero (b ∷ bits) h = absurd (omega arith)
byte_below (suc k) (true ∷ bits) h = omega (arith, byte_below k bits (omega arith))
byte_below (suc k) (false ∷ bits) h = omega (arith, byte_below k bits (omega arith))

pub byte_below_128 : (bits : List Bool) → length bits ≤ 7 → byte_of bits < 128
byte_below_128 bits h = byte_below 7 bits h

pub eight_of : (bits rest piece : List Bool) (place n : ℕ) → rest ≡ take (length bits - place) (drop place bits)
    → n ≡ min (length rest) 8 → piece ≡ take n rest → piece ≡ take 8 (drop place bits)
eight_of bits rest piece place n e f g =
    let m : n ≡ min 8 (length rest) = omega (arith, f) in
    g ∙ ap (λ k. take k rest) m ∙ take_min 8 rest ∙ ap (take 8) (e ∙ take_rest bits place)

-- one byte more
pub byte_more : (bits : List Bool) (index : ℕ) (bytes : List ℕ) (byte : ℕ)
    → bytes ≡ map (λ i. byte_of (take 8 (drop (8 * i) bits))) (range_with_len 0 index)
    → byte ≡ byte_of (take 8 (drop (8 * index) bits))
    → bytes ++ byte ∷ [] ≡ map (λ i. byte_of (take 8 (drop (8 * i) bits))) (range_with_len 0 (index + 1))
byte_more bits index bytes byte e f =
    let start : 0 + index ≡ index = omega arith in
    ap (λ before. before ++ byte ∷ []) e
    ∙ ap (λ b. map (λ i. byte_of (take 8 (drop (8 * i) bits))) (range_with_len 0 index) ++ b ∷ []) f
    ∙ sym (map-range_with_len_more (λ i. byte_of (take 8 (drop (8 * i) bits))) 0 index index start)
