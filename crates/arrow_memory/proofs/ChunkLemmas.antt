-- Lemmas about chunks of bytes.
use Rattle.std.proofs.Common.{◌≡◌, ℕ, zero, suc, ◌+◌, ◌-◌, ◌*◌, ◌<◌, List, [], ◌∷◌, ◌++◌, take, drop, map, length}
use Rattle.std.proofs.Common.{slice_set, ap, ap₂, arith, sym, ◌∙◌}
use Rattle.std.specs.Simd.{first_chunks}
use Rattle.std.proofs.Math.Seq.{drop-drop}
use Rattle.std.proofs.lemmas.List.{map-append, take_more_set}

-- one chunk more
chunks-more : {X : Type 0} (n i : ℕ) (xs : List X)
    → first_chunks n (i + 1) xs ≡ first_chunks n i xs ++ take n (drop (i * n) xs) ∷ []
chunks-more n zero xs = let none : zero * n ≡ 0 = omega arith in ap (λ k. take n (drop k xs) ∷ []) (sym none)
chunks-more n (suc i) xs =
    let next : suc i + 1 ≡ suc (i + 1) = omega arith in
    let place : n + i * n ≡ suc i * n = omega arith in
    ap (λ k. first_chunks n k xs) next
    ∙ ap (λ chunks. take n xs ∷ chunks) (chunks-more n i (drop n xs)
    ∙ ap (λ rest. first_chunks n i (drop n xs) ++ take n rest ∷ []) (drop-drop (i * n) n xs
    ∙ ap (λ k. drop k xs) place))

-- the value of one chunk more is written
pub chunk-written : {T : Type 0} (value : List ℕ → T) (n start size i : ℕ) (xs : List ℕ) (values : List T) (x : T)
    → start ≡ n → size ≡ n → i < length values → x ≡ value (take (i * start + size - i * start) (drop (i * start) xs))
    → take i values ≡ map value (first_chunks n i xs)
    → take (i + 1) (slice_set values i x) ≡ map value (first_chunks n (i + 1) xs)
chunk-written value n start size i xs values x at wide low read so_far =
    let many : i * start + size - i * start ≡ n = omega arith in
    let chunk = read ∙ ap₂ (λ k s. value (take k (drop (i * s) xs))) many at in
    take_more_set values i x low
    ∙ ap₂ (λ ys y. ys ++ y ∷ []) so_far chunk
    ∙ sym (map-append value (first_chunks n i xs) (take n (drop (i * n) xs) ∷ []))
    ∙ ap (map value) (sym (chunks-more n i xs))
