-- Lemmas about bytes that are appended as two words.
use Rattle.std.proofs.Common.{◌≡◌, ◌+◌, ◌-◌, ◌≤◌, ℕ, List, ◌++◌, length, take, drop, append_assoc, sym, ap, ◌∙◌}
use Rattle.std.proofs.Common.{arith, length-append}
use Rattle.std.proofs.Math.Seq.{take-append-add, take-append_seam}
use Rattle.std.proofs.lemmas.List.{take-append-drop, take-append-le, length-take-le}

-- `kept` is what stands when a word and then anything was appended, and cut to the length that is wanted
module _ {X : Type 0} (old bytes first filler kept : List X) (long : 8 ≤ length bytes) (short : length bytes ≤ 16)
    (is-first : first ≡ take 8 bytes)
    (fills : 8 ≤ length filler) (cut : kept ≡ take (length old + length bytes) (old ++ (first ++ filler))) where
  shorter : (m n : ℕ) (ys : List X) → m ≤ n → n ≤ length ys → take m (take n ys) ≡ take m ys
  shorter m n ys less fits =
      sym (take-append-le m (take n ys) (drop n ys) (omega (arith, less, length-take-le n ys fits)))
      ∙ ap (take m) (take-append-drop n ys)

  eight : length first ≡ 8
  eight = ap length is-first ∙ length-take-le 8 bytes long

  enough : length bytes ≤ length (first ++ filler)
  enough = omega (arith, length-append first filler, eight, fills, short)

  kept-whole : kept ≡ old ++ take (length bytes) (first ++ filler)
  kept-whole = cut ∙ take-append-add old (first ++ filler) (length bytes)

  kept-long : length kept ≡ length old + length bytes
  kept-long = ap length kept-whole ∙ length-append old (take (length bytes) (first ++ filler))
      ∙ ap (λ n. length old + n) (length-take-le (length bytes) (first ++ filler) enough)

  -- what stands before the last word
  before-last : take (length old + (length bytes - 8)) kept ≡ old ++ take (length bytes - 8) bytes
  before-last =
      let r = length bytes - 8 in
      ap (take (length old + r)) kept-whole ∙ take-append-add old (take (length bytes) (first ++ filler)) r
      ∙ ap (λ ys. old ++ ys)
      (shorter r (length bytes) (first ++ filler) (omega arith) enough
      ∙ take-append-le r first filler (omega (arith, eight, short))
      ∙ ap (take r) is-first ∙ shorter r 8 bytes (omega (arith, short)) long)

  pub words-joined : (last slice rest : List X) (end : ℕ) → last ≡ drop (length bytes - 8) bytes → slice ≡ kept
      → end ≡ length kept →
      take end ((take (length slice - 8) slice ++ last) ++ rest) ≡ old ++ bytes
  words-joined last slice rest end is-last same is-end =
      let r = length bytes - 8 in
      let place : length slice - 8 ≡ length old + r = omega (arith, ap length same, kept-long, long) in
      let whole : take (length slice - 8) slice ++ last ≡ old ++ bytes =
      ap (λ n. take n slice ++ last) place ∙ ap (λ ys. take (length old + r) ys ++ last) same
      ∙ ap (λ ys. ys ++ last) before-last
      ∙ ap (λ ys. (old ++ take r bytes) ++ ys) is-last ∙ append_assoc old (take r bytes) (drop r bytes)
      ∙ ap (λ ys. old ++ ys) (take-append-drop r bytes) in
      ap (λ ys. take end (ys ++ rest)) whole
      ∙ ap (λ n. take n ((old ++ bytes) ++ rest)) (omega (arith, is-end, kept-long, length-append old bytes))
      ∙ take-append_seam (old ++ bytes) rest
