-- Lemmas about the order of byte strings by their first four bytes.
use Rattle.std.proofs.Common.{◌≡◌, ◌≢◌, ℕ, ◌+◌, ◌*◌, ◌<◌, ◌≤◌, ◌⊎◌, ◌∙◌, List, [], ◌∷◌, length, sym, ap, inl, inr, arith}
use Rattle.std.specs.Cmp.{nat_cmp_is}
use Rattle.std.specs.Cmp.Lexicographic.{slice_cmp}
use Rattle.std.specs.Ordering.{nat_cmp, ordering_then}
use Rattle.std.specs.declared.cmp.Ordering.{Ordering}
use Rattle.std.specs.declared.cmp.Ordering.TheVariants.{Less, Equal, Greater}
use Rattle.std.proofs.lemmas.Bool.{cases_lt}
use Rattle.compute_slots.specs.Bytes.{AreBytes, four_bytes}

then_less : (x y : ℕ) (rest : Ordering) → (x < y) ⊎ ((x ≡ y) × (rest ≡ Less)) → ordering_then (nat_cmp x y) rest ≡ Less
then_less x y rest (inl before) = ap (λ o. ordering_then o rest) (sym (nat_cmp_is x y Less before))
then_less x y rest (inr (e, same)) = ap (λ o. ordering_then o rest) (sym (nat_cmp_is x y Equal e)) ∙ same

two_less : (c d g h : ℕ) (rest : Ordering) → d < 256 → h < 256 → c * 256 + d < g * 256 + h
    → ordering_then (nat_cmp c g) (ordering_then (nat_cmp d h) rest) ≡ Less
two_less c d g h rest low high before = elim (cases_lt (c) (g)) [
  | inl first ↦ then_less c g (ordering_then (nat_cmp d h) rest) (inl first)
  | inr past ↦
      let e : c ≡ g = omega (arith, low, high, before, past) in
      let last : d < h = omega (arith, e, before) in
      then_less c g (ordering_then (nat_cmp d h) rest) (inr (e, then_less d h rest (inl last)))
]

four_less : (a b c d e f g h : ℕ) (rest : Ordering) → b < 256 → c < 256 → d < 256 → f < 256 → g < 256 → h < 256
    → (a * 256 + b) * 65536 + (c * 256 + d) < (e * 256 + f) * 65536 + (g * 256 + h)
    → ordering_then (nat_cmp a e) (ordering_then (nat_cmp b f) (ordering_then (nat_cmp c g) (ordering_then (nat_cmp d h) rest))) ≡ Less
four_less a b c d e f g h rest lb lc ld lf lg lh before = elim (cases_lt (a * 256 + b) (e * 256 + f)) [
  | inl first ↦ two_less a b e f (ordering_then (nat_cmp c g) (ordering_then (nat_cmp d h) rest)) lb lf first
  | inr past ↦
      let e1 : a * 256 + b ≡ e * 256 + f = omega (arith, lc, ld, lg, lh, before, past) in
      let e2 : a ≡ e = omega (arith, lb, lf, e1) in
      let e3 : b ≡ f = omega (arith, e1, e2) in
      let last : c * 256 + d < g * 256 + h = omega (arith, e1, before) in
      then_less a e (ordering_then (nat_cmp b f) (ordering_then (nat_cmp c g) (ordering_then (nat_cmp d h) rest))) (inr (
        e2,
        then_less b f (ordering_then (nat_cmp c g) (ordering_then (nat_cmp d h) rest)) (inr (e3, two_less c d g h rest ld lh last)),
      ))
]

pub bytes_less : (xs ys : List ℕ) → 4 ≤ length xs → 4 ≤ length ys → AreBytes xs → AreBytes ys → four_bytes xs < four_bytes ys → slice_cmp nat_cmp xs ys ≡ Less
bytes_less (a ∷ b ∷ c ∷ d ∷ xs) (e ∷ f ∷ g ∷ h ∷ ys) long other low high before = four_less a b c d e f g h (slice_cmp nat_cmp xs ys)
    low.second low.third low.fourth high.second high.third high.fourth before
bytes_less [] ys long other low high before = absurd (omega (arith, long))
bytes_less (a ∷ []) ys long other low high before = absurd (omega (arith, long))
bytes_less (a ∷ b ∷ []) ys long other low high before = absurd (omega (arith, long))
bytes_less (a ∷ b ∷ c ∷ []) ys long other low high before = absurd (omega (arith, long))
bytes_less (a ∷ b ∷ c ∷ d ∷ xs) [] long other low high before = absurd (omega (arith, other))
bytes_less (a ∷ b ∷ c ∷ d ∷ xs) (e ∷ []) long other low high before = absurd (omega (arith, other))
bytes_less (a ∷ b ∷ c ∷ d ∷ xs) (e ∷ f ∷ []) long other low high before = absurd (omega (arith, other))
bytes_less (a ∷ b ∷ c ∷ d ∷ xs) (e ∷ f ∷ g ∷ []) long other low high before = absurd (omega (arith, other))

then_greater : (x y : ℕ) (rest : Ordering) → (y < x) ⊎ ((x ≡ y) × (rest ≡ Greater)) → ordering_then (nat_cmp x y) rest ≡ Greater
then_greater x y rest (inl before) = ap (λ o. ordering_then o rest) (sym (nat_cmp_is x y Greater before))
then_greater x y rest (inr (e, same)) = ap (λ o. ordering_then o rest) (sym (nat_cmp_is x y Equal e)) ∙ same

two_greater : (c d g h : ℕ) (rest : Ordering) → d < 256 → h < 256 → g * 256 + h < c * 256 + d
    → ordering_then (nat_cmp c g) (ordering_then (nat_cmp d h) rest) ≡ Greater
two_greater c d g h rest low high before = elim (cases_lt (g) (c)) [
  | inl first ↦ then_greater c g (ordering_then (nat_cmp d h) rest) (inl first)
  | inr past ↦
      let e : c ≡ g = omega (arith, low, high, before, past) in
      let last : h < d = omega (arith, e, before) in
      then_greater c g (ordering_then (nat_cmp d h) rest) (inr (e, then_greater d h rest (inl last)))
]

four_greater : (a b c d e f g h : ℕ) (rest : Ordering) → b < 256 → c < 256 → d < 256 → f < 256 → g < 256 → h < 256
    → (e * 256 + f) * 65536 + (g * 256 + h) < (a * 256 + b) * 65536 + (c * 256 + d)
    → ordering_then (nat_cmp a e) (ordering_then (nat_cmp b f) (ordering_then (nat_cmp c g) (ordering_then (nat_cmp d h) rest))) ≡ Greater
four_greater a b c d e f g h rest lb lc ld lf lg lh before = elim (cases_lt (e * 256 + f) (a * 256 + b)) [
  | inl first ↦ two_greater a b e f (ordering_then (nat_cmp c g) (ordering_then (nat_cmp d h) rest)) lb lf first
  | inr past ↦
      let e1 : a * 256 + b ≡ e * 256 + f = omega (arith, lc, ld, lg, lh, before, past) in
      let e2 : a ≡ e = omega (arith, lb, lf, e1) in
      let e3 : b ≡ f = omega (arith, e1, e2) in
      let last : g * 256 + h < c * 256 + d = omega (arith, e1, before) in
      then_greater a e (ordering_then (nat_cmp b f) (ordering_then (nat_cmp c g) (ordering_then (nat_cmp d h) rest))) (inr (
        e2,
        then_greater b f (ordering_then (nat_cmp c g) (ordering_then (nat_cmp d h) rest)) (inr (e3, two_greater c d g h rest ld lh last)),
      ))
]

pub bytes_greater : (xs ys : List ℕ) → 4 ≤ length xs → 4 ≤ length ys → AreBytes xs → AreBytes ys → four_bytes ys < four_bytes xs → slice_cmp nat_cmp xs ys ≡ Greater
bytes_greater (a ∷ b ∷ c ∷ d ∷ xs) (e ∷ f ∷ g ∷ h ∷ ys) long other low high before = four_greater a b c d e f g h (slice_cmp nat_cmp xs ys)
    low.second low.third low.fourth high.second high.third high.fourth before
bytes_greater [] ys long other low high before = absurd (omega (arith, long))
bytes_greater (a ∷ []) ys long other low high before = absurd (omega (arith, long))
bytes_greater (a ∷ b ∷ []) ys long other low high before = absurd (omega (arith, long))
bytes_greater (a ∷ b ∷ c ∷ []) ys long other low high before = absurd (omega (arith, long))
bytes_greater (a ∷ b ∷ c ∷ d ∷ xs) [] long other low high before = absurd (omega (arith, other))
bytes_greater (a ∷ b ∷ c ∷ d ∷ xs) (e ∷ []) long other low high before = absurd (omega (arith, other))
bytes_greater (a ∷ b ∷ c ∷ d ∷ xs) (e ∷ f ∷ []) long other low high before = absurd (omega (arith, other))
bytes_greater (a ∷ b ∷ c ∷ d ∷ xs) (e ∷ f ∷ g ∷ []) long other low high before = absurd (omega (arith, other))

-- the order of strings whose first four bytes differ
pub bytes_order : (xs ys : List ℕ) → 4 ≤ length xs → 4 ≤ length ys → AreBytes xs → AreBytes ys → four_bytes xs ≢ four_bytes ys
    → nat_cmp (four_bytes xs) (four_bytes ys) ≡ slice_cmp nat_cmp xs ys
bytes_order xs ys long other low high apart = elim (cases_lt (four_bytes xs) (four_bytes ys)) [
  | inl less ↦ sym (nat_cmp_is (four_bytes xs) (four_bytes ys) Less less) ∙ sym (bytes_less xs ys long other low high less)
  | inr past ↦ elim (cases_lt (four_bytes ys) (four_bytes xs)) [
    | inl more ↦ sym (nat_cmp_is (four_bytes xs) (four_bytes ys) Greater more) ∙ sym (bytes_greater xs ys long other low high more)
    | inr back ↦ absurd (apart (omega (arith, past, back)))
  ]
]
