-- Lemmas about offsets.
use Rattle.std.proofs.Common.{◌≡◌, ℕ, zero, suc, ◌+◌, ◌-◌, ◌<◌, ◌≤◌, ℤ, pos, negsuc, false, List, []}
use Rattle.std.proofs.Common.{◌∷◌, ◌++◌, length, map, take, drop, replicate, get_or, ◌≤ℤ◌, ◌+ℤ◌, ap₂}
use Rattle.std.proofs.Common.{append_assoc, length-drop, Option, Some, None, MatchOption, nat_lt}
use Rattle.std.proofs.Common.{refl, sym, ap, ◌∙◌, arith, inl, inr, length-append}
use Rattle.std.specs.Prelude.{slice_range}
use Rattle.std.specs.Int.RustNames.{unsigned_abs}
use Rattle.std.proofs.lemmas.Bool.{true≢false, or_parts, or_from, ltb-false, le-ltb, cases_lt}
use Rattle.std.proofs.lemmas.List.{get_or-map, length-map, map-append, get_or_append_left, get_or-append_right}
use Rattle.std.proofs.lemmas.List.{take-append-drop, get_or-take, get_or-drop, get_or-replicate, length-replicate}
use Rattle.std.proofs.lemmas.List.{take_more, take_all, ext_get_or}
use Rattle.std.proofs.lemmas.Int.{ints}
use Rattle.std.specs.List.{drop-map}
use Rattle.arrow_types.proofs.CallerLemmas.{length-piece, map-piece, no-faults, no-second_fault}
use Rattle.arrow_memory.specs.Offsets.{file_offsets, first_of, last_of, NeverFalls, IsOffsets, falls_after, first_fault}
use Rattle.arrow_memory.specs.Offsets.{numbers_of, KeepsOffsets, moved_behind}

-- ---- integers that are handed in

-- the last of the numbers after one
abbrev pub last_after : ℕ → List ℤ → ℕ
last_after x [] = x
last_after x (z ∷ zs) = last_after (unsigned_abs z) zs

whole-after : (x : ℕ) (zs : List ℤ) → falls_after (pos x) zs ≡ false → zs ≡ map pos (map unsigned_abs zs)
whole-after x [] h = refl
whole-after x (pos n ∷ zs) h = ap (λ ys. pos n ∷ ys) (whole-after n zs (or_parts _ _ h).1)
whole-after x (negsuc n ∷ zs) h = absurd (true≢false h)

le-chain : {a b c : ℕ} → a ≤ b → b ≤ c → a ≤ c
le-chain le₁ le₂ = omega arith

order-after : (x : ℕ) (zs : List ℤ) → falls_after (pos x) zs ≡ false → NeverFalls (x ∷ map unsigned_abs zs)
order-after x zs h zero zero le within = omega arith
order-after x (pos n ∷ zs) h zero (suc j) le within =
    let up : x ≤ n = ltb-false n x (or_parts _ _ h).0 in
    le-chain up (order-after n zs (or_parts _ _ h).1 zero j (omega arith) (omega arith))
order-after x (negsuc n ∷ zs) h zero (suc j) le within = absurd (true≢false h)
order-after x [] h zero (suc j) le within = absurd (omega arith)
order-after x (pos n ∷ zs) h (suc i) (suc j) le within =
    order-after n zs (or_parts _ _ h).1 i j (omega arith) (omega arith)
order-after x (negsuc n ∷ zs) h (suc i) (suc j) le within = absurd (true≢false h)
order-after x [] h (suc i) (suc j) le within = absurd (omega arith)
order-after x zs h (suc i) zero le within = absurd (omega arith)

last-after : (x : ℕ) (zs : List ℤ) → last_after x zs ≡ get_or (x ∷ map unsigned_abs zs) (length zs) 0
last-after x [] = refl
last-after x (z ∷ zs) = last-after (unsigned_abs z) zs

pub last_of-after : (x : ℕ) (zs : List ℤ) → last_after x zs ≡ last_of (x ∷ map unsigned_abs zs)
last_of-after x zs = last-after x zs ∙ ap (λ i. get_or (x ∷ map unsigned_abs zs) i 0) (let e : length zs
    ≡ suc (length (map unsigned_abs zs)) - 1 = omega (arith, length-map zs unsigned_abs) in e)

-- integers with no fault are numbers, and legal offsets
pub faultless-whole : (zs : List ℤ) → first_fault zs ≡ None → zs ≡ map pos (map unsigned_abs zs)
faultless-whole [] h = absurd (cc)
faultless-whole (negsuc n ∷ zs) h = absurd (cc)
faultless-whole (pos n ∷ zs) h =
    ap (λ ys. pos n ∷ ys) (whole-after n zs (no-second_fault (nat_lt n 0) (falls_after (pos n) zs) _ _ h))

pub faultless-legal : (zs : List ℤ) → first_fault zs ≡ None → IsOffsets (map unsigned_abs zs)
faultless-legal [] h = absurd (cc)
faultless-legal (negsuc n ∷ zs) h = absurd (cc)
faultless-legal (pos n ∷ zs) h = record {
  some = omega arith;
  order =
      order-after n zs (no-second_fault (nat_lt n 0) (falls_after (pos n) zs) _ _ h);
}

-- a file that has legal offsets means these
pub file-same : (zs : List ℤ) → first_fault zs ≡ None → file_offsets zs ≡ zs
file-same [] h = absurd (cc)
file-same (z ∷ zs) h = refl

never-after : (n : ℕ) (ns : List ℕ) → NeverFalls (n ∷ ns) → falls_after (pos n) (map pos ns) ≡ false
never-after n [] order = refl
never-after n (m ∷ ms) order =
    let up : n ≤ m = order zero 1 (omega arith) (omega arith) in
    or_from (nat_lt m n) (falls_after (pos m) (map pos ms)) (le-ltb m n up) (never-after m ms (λ i j le within.
    order (suc i) (suc j) (omega arith) (omega arith)))

-- legal offsets have no fault
pub legal-faultless : (ns : List ℕ) → IsOffsets ns → first_fault (map pos ns) ≡ None
legal-faultless [] h = absurd (omega (arith, h.some))
legal-faultless (n ∷ ns) h = no-faults (nat_lt n 0) (falls_after (pos n) (map pos ns)) _ _
    (le-ltb n 0 (omega arith)) (never-after n ns h.order)

-- where the last of what was looked at is at most the greatest number, so is the last offset
pub end-within : {O : Type 0} (number : O → ℤ) (xs : List O) (start before most : ℕ)
    → before ≡ last_after start (map number xs) → before ≤ most → last_of (numbers_of number xs) ≤ most
end-within number [] start before most e le = omega arith
end-within number (x ∷ xs) start before most e le =
    omega (arith, last_of-after (unsigned_abs (number x)) (map number xs), e)

-- ---- offsets that are kept as values

pub length-numbers : {O : Type 0} (number : O → ℤ) (xs : List O) → length (numbers_of number xs) ≡ length xs
length-numbers number xs = length-map (map number xs) unsigned_abs ∙ length-map xs number

pub value-at : {O : Type 0} (number : O → ℤ) (xs : List O) (x : O) (i : ℕ)
    → map number xs ≡ map pos (numbers_of number xs) → i < length xs → x ≡ get_or xs i x
    → number x ≡ pos (get_or (numbers_of number xs) i 0)
value-at number xs x i whole within is =
    ap number is ∙ sym (get_or-map number xs i x (number x) within)
    ∙ ap (λ zs. get_or zs i (number x)) whole
    ∙ get_or-map pos (numbers_of number xs) i 0 (number x) (let e : i < length (numbers_of number xs) =
    omega (arith, length-numbers number xs) in e)

pub value-last : {O : Type 0} (number : O → ℤ) (most : ℕ) (xs : List O) (x : O) (i : ℕ)
    → KeepsOffsets number most xs → i + 1 ≡ length xs → x ≡ get_or xs i x
    → number x ≡ pos (last_of (numbers_of number xs))
value-last number most xs x i keeps at is =
    value-at number xs x i keeps.whole (omega arith) is
    ∙ ap (λ k. pos (get_or (numbers_of number xs) k 0)) (let e : i ≡ length (numbers_of number xs) - 1 =
    omega (arith, length-numbers number xs) in e)

pub not-negative : (z : ℤ) (n : ℕ) → z ≡ pos n → pos 0 ≤ℤ z
not-negative z n e = rw e (omega (arith, ints))

pub ruleset offset_reads = (value-at, length-numbers)

-- the offset behind another is not below it
pub order-at : {O : Type 0} (number : O → ℤ) (most : ℕ) (xs : List O) (x y : O) (i : ℕ)
    → KeepsOffsets number most xs → i + 1 < length xs → x ≡ get_or xs i x → y ≡ get_or xs (i + 1) y
    → number x ≤ℤ number y
order-at number most xs x y i keeps within first second =
    let long = length-numbers number xs in
    let start = value-at number xs x i keeps.whole (omega arith) first in
    let end = value-at number xs y (i + 1) keeps.whole (omega arith) second in
    let up = keeps.legal.order i (i + 1) (omega arith) (omega (arith, long)) in
    omega (arith, ints, start, end, up)

-- where the offset behind another lies so far from it, that end is within the last offset
pub slot-end : {O : Type 0} (number : O → ℤ) (most : ℕ) (xs : List O) (x y : O) (i d : ℕ)
    → KeepsOffsets number most xs → i + 1 < length xs → x ≡ get_or xs i x → y ≡ get_or xs (i + 1) y
    → number y ≡ number x +ℤ pos d → get_or (numbers_of number xs) i 0 + d ≤ last_of (numbers_of number xs)
slot-end number most xs x y i d keeps within first second far =
    let long = length-numbers number xs in
    let start = value-at number xs x i keeps.whole (omega arith) first in
    let end = value-at number xs y (i + 1) keeps.whole (omega arith) second in
    let up = keeps.legal.order (i + 1) (length (numbers_of number xs) - 1) (omega (arith, long))
    (omega (arith, long)) in
    omega (arith, ints, start, end, far, up)

-- ---- pieces

read-piece : (ns : List ℕ) (o n i : ℕ) → i < n → get_or (take n (drop o ns)) i 0 ≡ get_or ns (o + i) 0
read-piece ns o n i low = get_or-take n (drop o ns) i 0 low ∙ get_or-drop o ns i 0

order-piece : (ns : List ℕ) (o n : ℕ) → IsOffsets ns → o + n ≤ length ns → NeverFalls (take n (drop o ns))
order-piece ns o n legal inside i j up within =
    let low : j < n = omega (arith, length-piece ns o n inside) in
    let start = read-piece ns o n i (omega arith) in
    let end = read-piece ns o n j low in
    omega (arith, start, end, legal.order (o + i) (o + j) (omega arith) (omega arith))

pub legal-piece : (ns : List ℕ) (o n : ℕ) → IsOffsets ns → 1 ≤ n → o + n ≤ length ns → IsOffsets (take n (drop o ns))
legal-piece ns o n legal some inside = record {
  some = omega (arith, length-piece ns o n inside);
  order =
      order-piece ns o n legal inside;
}

pub last-piece : (ns : List ℕ) (o n : ℕ) → IsOffsets ns → 1 ≤ n → o + n ≤ length ns
    → last_of (take n (drop o ns)) ≤ last_of ns
last-piece ns o n legal some inside =
    let long = length-piece ns o n inside in
    let end = read-piece ns o n (length (take n (drop o ns)) - 1) (omega arith) in
    omega (
      arith,
      end,
      long,
      legal.order (o + (length (take n (drop o ns)) - 1)) (length ns - 1) (omega arith)
          (omega arith),
    )

pub numbers-piece : {O : Type 0} (number : O → ℤ) (xs : List O) (o n : ℕ)
    → numbers_of number (take n (drop o xs)) ≡ take n (drop o (numbers_of number xs))
numbers-piece number xs o n = ap (map unsigned_abs) (map-piece number xs o n)
    ∙ map-piece unsigned_abs (map number xs) o n

pub keeps-piece : {O : Type 0} (number : O → ℤ) (most : ℕ) (xs : List O) (o n : ℕ) → KeepsOffsets number most xs
    → 1 ≤ n → o + n ≤ length xs → KeepsOffsets number most (take n (drop o xs))
keeps-piece number most xs o n keeps some inside =
    let e = numbers-piece number xs o n in
    let long = length-numbers number xs in
    record {
      whole = map-piece number xs o n ∙ ap (λ zs. take n (drop o zs)) keeps.whole
          ∙ sym (map-piece pos (numbers_of number xs) o n) ∙ ap (map pos) (sym e);
      legal = rw e (legal-piece (numbers_of number xs) o n keeps.legal some (omega arith));
      within = rw e (omega (arith, last-piece (numbers_of number xs) o n keeps.legal some (omega arith), keeps.within));
    }

-- ---- zeros

map-zeros : {O : Type 0} (number : O → ℤ) (x : O) (k : ℕ) → number x ≡ pos 0
    → map number (replicate k x) ≡ map pos (replicate k 0)
map-zeros number x zero is = refl
map-zeros number x (suc k) is = ap (λ z. z ∷ map number (replicate k x)) is
    ∙ ap (λ zs. pos 0 ∷ zs) (map-zeros number x k is)

abs-pos : (ns : List ℕ) → map unsigned_abs (map pos ns) ≡ ns
abs-pos [] = refl
abs-pos (n ∷ ns) = ap (λ xs. n ∷ xs) (abs-pos ns)

pub numbers-zeros : {O : Type 0} (number : O → ℤ) (x : O) (k : ℕ) → number x ≡ pos 0
    → numbers_of number (replicate k x) ≡ replicate k 0
numbers-zeros number x k is = ap (map unsigned_abs) (map-zeros number x k is) ∙ abs-pos (replicate k 0)

zero-at : (k i : ℕ) → i < k → get_or {A = ℕ} (replicate k 0) i 0 ≡ 0
zero-at k i low = get_or-replicate k i 0 0 low

length-zeros : (k : ℕ) → length {A = ℕ} (replicate k 0) ≡ k
length-zeros k = length-replicate k 0

legal-zeros : (k : ℕ) → 0 < k → IsOffsets (replicate k 0)
legal-zeros k some = record {
  some = omega (arith, length-zeros k);
  order = λ i j up within. let long = length-zeros k in omega (
    arith,
    zero-at k i (omega arith),
    zero-at k j (omega arith),
  );
}

pub keeps-zeros : {O : Type 0} (number : O → ℤ) (most : ℕ) (x : O) (k : ℕ) → 0 < k → number x ≡ pos 0
    → KeepsOffsets number most (replicate k x)
keeps-zeros number most x k some is =
    let e = numbers-zeros number x k is in
    let long = length-zeros k in
    record {
      whole = map-zeros number x k is ∙ ap (map pos) (sym e);
      legal = rw e (legal-zeros k some);
      within = rw e (omega (arith, zero-at k (length {A = ℕ} (replicate k 0) - 1) (omega arith)));
    }

-- ---- another's slots, moved

pub length-moved : (last : ℕ) (ns : List ℕ) → length (moved_behind last ns) ≡ length ns - 1
length-moved last ns = length-map (drop 1 ns) _ ∙ length-drop 1 ns

pub moved-at : (last : ℕ) (ns : List ℕ) (i : ℕ) → i + 1 < length ns
    → get_or (moved_behind last ns) i 0 ≡ last + (get_or ns (i + 1) 0 - first_of ns)
moved-at last ns i low =
    get_or-map (λ n. last + (n - first_of ns)) (drop 1 ns) i 0 0 (omega (arith, length-drop 1 ns))
    ∙ ap (λ n. last + (n - first_of ns)) (get_or-drop 1 ns i 0 ∙ ap (λ k. get_or ns k 0) (let e : 1 + i ≡ i + 1 =
    omega arith in e))

-- behind the offset that they begin at, nothing moves
unmoved : (ns : List ℕ) → IsOffsets ns → moved_behind (first_of ns) ns ≡ drop 1 ns
unmoved ns legal =
    let same : length (moved_behind (first_of ns) ns) ≡ length (drop 1 ns) = length-moved (first_of ns) ns
    ∙ sym (length-drop 1 ns) in
    ext_get_or 0 (moved_behind (first_of ns) ns) (drop 1 ns) same (λ i low.
    let inside : i + 1 < length ns = omega (arith, length-moved (first_of ns) ns) in
    let rises : first_of ns ≤ get_or ns (i + 1) 0 = legal.order 0 (i + 1) (omega arith) inside in
    let there : get_or (drop 1 ns) i 0 ≡ get_or ns (i + 1) 0 = get_or-drop 1 ns i 0
    ∙ ap (λ k. get_or ns k 0) (let e : 1 + i ≡ i + 1 = omega arith in e) in
    moved-at (first_of ns) ns i inside ∙ (omega (arith, rises, there)))

pub copied : {O : Type 0} (number : O → ℤ) (most last : ℕ) (old other : List O) → KeepsOffsets number most other
    → last ≡ first_of (numbers_of number other)
    → map number (old ++ drop 1 other) ≡ map number old ++ map pos (moved_behind last (numbers_of number other))
copied number most last old other keeps here =
    let ns = numbers_of number other in
    map-append number old (drop 1 other) ∙ ap (λ zs. map number old ++ zs)
    (sym (drop-map number 1 other) ∙ ap (drop 1) keeps.whole ∙ drop-map pos 1 ns
    ∙ ap (map pos) (sym (unmoved ns keeps.legal) ∙ ap (λ n. moved_behind n ns) (sym here)))

-- one more end after those from slot `from` up to slot i
pub moved-step : {O : Type 0} (number : O → ℤ) (before xs new : List O) (from i last : ℕ) (v : O) (ns : List ℕ)
    → from ≤ i → i + 1 < length ns → number v ≡ pos (last + (get_or ns (i + 1) 0 - first_of ns)) → new ≡ xs ++ v ∷ []
    → map number xs ≡ map number before ++ map pos (slice_range (moved_behind last ns) from i)
    → map number new ≡ map number before ++ map pos (slice_range (moved_behind last ns) from (i + 1))
moved-step number before xs new from i last v ns order low is more done =
    let zs = drop from (moved_behind last ns) in
    let long : i - from < length zs = omega (arith, length-moved last ns, length-drop from (moved_behind last ns)) in
    let here : get_or zs (i - from) 0 ≡ last + (get_or ns (i + 1) 0 - first_of ns) =
    get_or-drop from (moved_behind last ns) (i - from) 0
    ∙ ap (λ k. get_or (moved_behind last ns) k 0) (let e : from + (i - from) ≡ i = omega arith in e)
    ∙ moved-at last ns i low in
    let count : i - from + 1 ≡ i + 1 - from = omega arith in
    ap (map number) more ∙ map-append number xs (v ∷ [])
    ∙ ap₂ (λ front z. front ++ z ∷ []) done (is ∙ ap pos (sym here))
    ∙ append_assoc (map number before) (map pos (take (i - from) zs)) (pos (get_or zs (i - from) 0) ∷ [])
    ∙ ap (λ end. map number before ++ end) (sym (ap (λ k. map pos (take k zs)) (sym count)
    ∙ ap (map pos) (take_more zs (i - from) 0 long)
    ∙ map-append pos (take (i - from) zs) (get_or zs (i - from) 0 ∷ [])))

-- the ends up to a slot, and those from it on
pub moved-parts : {O : Type 0} (number : O → ℤ) (before middle after : List O) (zs : List ℕ) (k n : ℕ) → k ≤ n
    → n ≡ length zs → map number middle ≡ map number before ++ map pos (slice_range zs 0 k)
    → map number after ≡ map number middle ++ map pos (slice_range zs k n)
    → map number after ≡ map number before ++ map pos zs
moved-parts number before middle after zs k n order long first second =
    let rest : take (n - k) (drop k zs) ≡ drop k zs = take_all (n - k) (drop k zs) (omega (arith, length-drop k zs)) in
    let none : k - 0 ≡ k = omega arith in
    let front : map number middle ≡ map number before ++ map pos (take k zs) =
    first ∙ ap (λ j. map number before ++ map pos (take j zs)) none in
    second ∙ ap₂ (λ front end. front ++ map pos end) front rest
    ∙ append_assoc (map number before) (map pos (take k zs)) (map pos (drop k zs))
    ∙ ap (λ end. map number before ++ end) (sym (map-append pos (take k zs) (drop k zs))
    ∙ ap (map pos) (take-append-drop k zs))

end-at : (ns other : List ℕ) (k : ℕ) → length ns ≤ k → k + 1 < length ns + length other
    → get_or (ns ++ moved_behind (last_of ns) other) k 0
    ≡ last_of ns + (get_or other (k - length ns + 1) 0 - first_of other)
end-at ns other k past within =
    get_or-append_right ns (moved_behind (last_of ns) other) (length ns) k 0 refl past
    ∙ moved-at (last_of ns) other (k - length ns) (omega arith)

length-joined : (ns other : List ℕ) → length (ns ++ moved_behind (last_of ns) other) ≡ length ns + (length other - 1)
length-joined ns other = length-append ns (moved_behind (last_of ns) other)
    ∙ ap (λ k. length ns + k) (length-moved (last_of ns) other)

order-joined : (ns other : List ℕ) → IsOffsets ns → IsOffsets other → NeverFalls (ns ++ moved_behind (last_of ns) other)
order-joined ns other legal added i j up within =
    let long = length-joined ns other in
    elim (cases_lt j (length ns)) [
      | inl here ↦
          let low = get_or_append_left ns (moved_behind (last_of ns) other) 0 i (omega arith) in
          let high = get_or_append_left ns (moved_behind (last_of ns) other) 0 j here in
          omega (arith, low, high, legal.order i j up here)
      | inr past ↦
          let end = end-at ns other j past (omega arith) in
          elim (cases_lt i (length ns)) [
            | inl below ↦
                let low = get_or_append_left ns (moved_behind (last_of ns) other) 0 i below in
                omega (arith, low, end, legal.order i (length ns - 1) (omega arith) (omega arith))
            | inr too ↦
                let start = end-at ns other i too (omega arith) in
                omega (
                  arith,
                  start,
                  end,
                  added.order (i - length ns + 1) (j - length ns + 1) (omega arith)
                      (omega arith),
                )
          ]
    ]

legal-joined : (ns other : List ℕ) → IsOffsets ns → IsOffsets other → IsOffsets (ns ++ moved_behind (last_of ns) other)
legal-joined ns other legal added = record {
  some = omega (arith, length-joined ns other, legal.some);
  order =
      order-joined ns other legal added;
}

last-joined : (ns other : List ℕ) → IsOffsets ns → IsOffsets other
    → last_of (ns ++ moved_behind (last_of ns) other) ≡ last_of ns + (last_of other - first_of other)
last-joined ns other legal added =
    let long = length-joined ns other in
    let k : ℕ = length (ns ++ moved_behind (last_of ns) other) - 1 in
    elim (cases_lt 1 (length other)) [
      | inl more ↦
          let place : length (ns ++ moved_behind (last_of ns) other) - 1 - length ns + 1 ≡ length other - 1 =
          omega (arith, legal.some) in
          end-at ns other (length (ns ++ moved_behind (last_of ns) other) - 1) (omega arith) (omega arith)
          ∙ ap (λ i. last_of ns + (get_or other i 0 - first_of other)) place
      | inr one ↦
          let place : length (ns ++ moved_behind (last_of ns) other) - 1 ≡ length ns - 1 = omega (arith, added.some) in
          let same : length other - 1 ≡ 0 = omega arith in
          let end : last_of other ≡ first_of other = ap (λ i. get_or other i 0) same in
          ap (λ i. get_or (ns ++ moved_behind (last_of ns) other) i 0) place
          ∙ get_or_append_left ns (moved_behind (last_of ns) other) 0 (length ns - 1) (omega (arith, legal.some))
          ∙ (let e : last_of ns ≡ last_of ns + (last_of other - first_of other) = omega (arith, end) in e)
    ]

-- values of which the numbers are known
pub numbers-known : {O : Type 0} (number : O → ℤ) (xs : List O) (ns : List ℕ) → map number xs ≡ map pos ns
    → numbers_of number xs ≡ ns
numbers-known number xs ns is = ap (map unsigned_abs) is ∙ abs-pos ns

pub joined-known : {O : Type 0} (number : O → ℤ) (old new : List O) (ms : List ℕ)
    → map number old ≡ map pos (numbers_of number old) → map number new ≡ map number old ++ map pos ms
    → map number new ≡ map pos (numbers_of number old ++ ms)
joined-known number old new ms whole is = is ∙ ap (λ zs. zs ++ map pos ms) whole
    ∙ sym (map-append pos (numbers_of number old) ms)

pub keeps-joined : {O : Type 0} (number : O → ℤ) (most : ℕ) (old new : List O) (other : List ℕ)
    → KeepsOffsets number most old → IsOffsets other
    → last_of (numbers_of number old) + (last_of other - first_of other) ≤ most
    → map number new ≡ map number old ++ map pos (moved_behind (last_of (numbers_of number old)) other)
    → KeepsOffsets number most new
keeps-joined number most old new other keeps added le is =
    let ns = numbers_of number old in
    let known = joined-known number old new (moved_behind (last_of ns) other) keeps.whole is in
    let e = numbers-known number new (ns ++ moved_behind (last_of ns) other) known in
    record {
      whole = known ∙ ap (map pos) (sym e);
      legal = rw e (legal-joined ns other keeps.legal added);
      within = rw e (rw (last-joined ns other keeps.legal added) le);
    }

pub numbers-joined : {O : Type 0} (number : O → ℤ) (old new : List O) (ms : List ℕ)
    → map number old ≡ map pos (numbers_of number old) → map number new ≡ map number old ++ map pos ms
    → numbers_of number new ≡ numbers_of number old ++ ms
numbers-joined number old new ms whole is =
    numbers-known number new (numbers_of number old ++ ms) (joined-known number old new ms whole is)

-- ---- one more end

legal-pushed : (ns : List ℕ) (end : ℕ) → IsOffsets ns → last_of ns ≤ end → IsOffsets (ns ++ end ∷ [])
legal-pushed ns end legal up = record {
  some = omega (arith, length-append ns (end ∷ []));
  order = λ i j le within.
      let long = length-append ns (end ∷ []) in
      elim (cases_lt j (length ns)) [
        | inl here ↦ omega (
          arith,
          get_or_append_left ns (end ∷ []) 0 i (omega arith),
          get_or_append_left ns (end ∷ []) 0 j here,
          legal.order i j le here,
        )
        | inr past ↦
            let high : get_or (ns ++ end ∷ []) j 0 ≡ end =
            get_or-append_right ns (end ∷ []) (length ns) j 0 refl past
            ∙ ap (λ k. get_or (end ∷ []) k 0) (let e : j - length ns ≡ 0 = omega arith in e) in
            elim (cases_lt i (length ns)) [
              | inl below ↦ omega (
                arith,
                high,
                get_or_append_left ns (end ∷ []) 0 i below,
                legal.order i (length ns - 1) (omega arith) (omega arith),
                up,
              )
              | inr too ↦
                  let same : i ≡ j = omega arith in
                  omega (arith, ap (λ k. get_or (ns ++ end ∷ []) k 0) same)
            ]
      ];
}

last-pushed : (ns : List ℕ) (end : ℕ) → last_of (ns ++ end ∷ []) ≡ end
last-pushed ns end =
    let place : length (ns ++ end ∷ []) - 1 ≡ length ns = omega (arith, length-append ns (end ∷ [])) in
    ap (λ k. get_or (ns ++ end ∷ []) k 0) place
    ∙ get_or-append_right ns (end ∷ []) (length ns) (length ns) 0 refl (omega arith)
    ∙ ap (λ k. get_or (end ∷ []) k 0) (let e : length ns - length ns ≡ 0 = omega arith in e)

pub keeps-pushed : {O : Type 0} (number : O → ℤ) (most : ℕ) (old new : List O) (v : O) (end : ℕ)
    → KeepsOffsets number most old → last_of (numbers_of number old) ≤ end → end ≤ most → number v ≡ pos end
    → new ≡ old ++ v ∷ [] → KeepsOffsets number most new
keeps-pushed number most old new v end keeps up le is more =
    let ns = numbers_of number old in
    let known = joined-known number old new (end ∷ []) keeps.whole
    (ap (map number) more ∙ map-append number old (v ∷ []) ∙ ap (λ z. map number old ++ z ∷ []) is) in
    let e = numbers-known number new (ns ++ end ∷ []) known in
    record {
      whole = known ∙ ap (map pos) (sym e);
      legal = rw e (legal-pushed ns end keeps.legal up);
      within = rw e (rw (last-pushed ns end) le);
    }

-- ---- what vectors say

-- a vector that was empty and was filled up
pub filled : {O : Type 0} (count n : ℕ) (xs ys : List O) (x : O) → xs ≡ [] → n ≡ 0
    → ys ≡ take count xs ++ replicate (count - n) x → ys ≡ replicate count x
filled count n xs ys x empty nought is =
    is ∙ ap₂ (λ ys k. take count ys ++ replicate (count - k) x) empty nought
    ∙ ap (λ ys. ys ++ replicate (count - 0) x) (take_all count [] (omega arith))
    ∙ ap (λ k. replicate k x) (let e : count - 0 ≡ count = omega arith in e)

-- what is popped where there is a slot
pub popped : {O : Type 0} (number : O → ℤ) (most : ℕ) (xs after : List O) (ns : List ℕ) (n m : ℕ) (r : Option O)
    (P : Type 0) → KeepsOffsets number most xs → numbers_of number xs ≡ ns → n ≡ length xs → 1 < n
    → MatchOption r ((n ≡ 0) × (m ≡ 0)) (λ _. m + 1 ≡ n) → ((d : O) → 0 < n → r ≡ Some (get_or xs (n - 1) d))
    → after ≡ take (n - 1) xs
    → MatchOption r P (λ offset. (1 < length ns) × (number offset ≡ pos (last_of ns))
    × (numbers_of number after ≡ take (length ns - 1) ns))
popped number most xs after ns n m None P keeps is long more cases value rest = absurd (omega (arith, cases.0))
popped number most xs after ns n m (Some x) P keeps is long more cases value rest =
    let found = value x (omega arith) in
    let here : x ≡ get_or xs (n - 1) x = cc in
    let slots : length ns ≡ length xs = ap length (sym is) ∙ length-numbers number xs in
    let front : n - 1 ≡ length ns - 1 = omega arith in (
      omega arith,
      value-last number most xs x (n - 1) keeps (omega arith) here ∙ ap (λ ks. pos (last_of ks)) is,
      ap (numbers_of number) rest ∙ numbers-piece number xs 0 (n - 1) ∙ ap₂ take front is,
    )
