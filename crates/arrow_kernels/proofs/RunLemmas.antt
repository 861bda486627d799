-- Lemmas about runs of set bits of words, and about runs of rows that a filter selects.
use Rattle.std.proofs.Common.{◌≡◌, ℕ, zero, suc, ◌+◌, ◌-◌, ◌*◌, ◌/◌, ◌%◌, ◌^◌, ◌<◌, ◌≤◌, ◌==◌, min, bit_and, w64}
use Rattle.std.proofs.Common.{Bool, true, false, List, [], ◌∷◌, ◌++◌, length, replicate, take, drop, slice_get, Some}
use Rattle.std.proofs.Common.{refl, sym, subst, ap, ap₂, ◌∙◌, inl, inr, arith, add_comm, append_assoc}
use Rattle.std.proofs.Common.{length-drop, take-add}
use Rattle.std.proofs.Common.{mul-le-mul_right}
use Rattle.std.specs.Int.{bit_at, bit_not, trailing_ones}
use Rattle.std.proofs.Math.Nat.{pow-le-pow_right}
use Rattle.std.proofs.Math.Seq.{take-length}
use Rattle.std.proofs.lemmas.Bool.{cases_eq, cases_lt}
use Rattle.std.proofs.lemmas.List.{append-nil, length-take-le, replicate_more}
use Rattle.std.proofs.lemmas.Nat.{and_le_r, pow-add, shl_whole, shr_below, shr_le}
use Rattle.std.proofs.lemmas.Nat.Bits.{bit_at_above, bit_at_and, bit_at_cat_high, bit_at_cat_low}
use Rattle.std.proofs.lemmas.Nat.Bits.{bit_at_ones, bit_at-trailing_ones}
use Rattle.std.proofs.lemmas.Nat.Bits.{bit_at-lt, bit_at_not, ones_shr}
use Rattle.arrow_types.proofs.CallerLemmas.{bit-from, moved-bit, take-next}
use Rattle.arrow_memory.specs.Marks.{bits_of}
use Rattle.arrow_memory.proofs.CallerLemmas.{length-bits, take-bits}
use Rattle.arrow_bytes.specs.Selection.{where_set}
use Rattle.compute_base.specs.Words.{HoldsMarks}
use Rattle.arrow_kernels.proofs.BitLemmas.{slice_get-bits}
use Rattle.arrow_kernels.specs.Filtering.{where-gap-up}
use Rattle.arrow_kernels.proofs.ChoiceLemmas.{where-append}
use Rattle.arrow_kernels.proofs.WordLemmas.{no-more}

-- ---- runs of set bits

-- all bits of a word are set
full : (n : ℕ) → n < 2 ^ 64 → 2 ^ 64 ≤ n + 1 → n ≡ 18446744073709551615
full n fits top = omega (arith, fits, top)

full-ones : (n : ℕ) → n ≡ 18446744073709551615 → trailing_ones w64 n ≡ 64
full-ones n e = no-more (bit_not w64 n) (ap (bit_not w64) e)

module _ (word first : ℕ) (fits : word < 2 ^ 64) (within : first < 64) (set : bit_at word first ≡ 1) where
  moved : ℕ
  moved = word / 2 ^ first

  narrow : word / 2 ^ first < 2 ^ (64 - first)
  narrow = shr_below word (64 - first) first (subst (λ n. word < 2 ^ n) (let e : 64 ≡ 64 - first + first =
      omega arith in e) fits)

  here : bit_at (word / 2 ^ first) 0 ≡ 1
  here = moved-bit word first 0 ∙ ap (bit_at word) (let e : first + 0 ≡ first = omega arith in e) ∙ set

  -- a run of all 64 begins at the first bit
  all-first : word / 2 ^ first ≡ 18446744073709551615 → first ≡ 0
  all-first e = elim (cases_eq first 0) [
    | inl none ↦ none
    | inr some ↦ absurd (omega (
      arith,
      e,
      narrow,
      pow-le-pow_right {n = 2} (omega arith) {i = 64 - first} {j =
          63} (omega (arith, some)),
    ))
  ]

  pub run-more : 0 < trailing_ones w64 (word / 2 ^ first)
  run-more = elim (cases_lt (word / 2 ^ first + 1) (2 ^ 64)) [
    | inl less ↦ elim (cases_eq (trailing_ones w64 (word / 2 ^ first)) 0) [
      | inl none ↦ absurd (omega (
        arith,
        here,
        sym (ap (bit_at (word / 2 ^ first)) none)
            ∙ (bit_at-trailing_ones w64 (word / 2 ^ first) less).1,
      ))
      | inr some ↦ omega (arith, some)
    ]
    | inr top ↦ omega (
      arith,
      full-ones (word / 2 ^ first) (full (word / 2 ^ first) (omega (arith, fits, shr_le word first)) top),
    )
  ]

  pub run-within : first + trailing_ones w64 (word / 2 ^ first) ≤ 64
  run-within = elim (cases_lt (word / 2 ^ first + 1) (2 ^ 64)) [
    | inl less ↦ elim (cases_lt (64 - first) (trailing_ones w64 (word / 2 ^ first))) [
      | inl past ↦ absurd (omega (
        arith,
        bit_at_above (word / 2 ^ first) (64 - first) (64 - first) narrow
            (omega arith),
        (bit_at-trailing_ones w64 (word / 2 ^ first) less).2 (64 - first) past,
      ))
      | inr low ↦ omega (arith, low, within)
    ]
    | inr top ↦
        let e = full (word / 2 ^ first) (omega (arith, fits, shr_le word first)) top in
        omega (arith, full-ones (word / 2 ^ first) e, all-first e)
  ]

  pub run-set : (k : ℕ) → first ≤ k → k < first + trailing_ones w64 (word / 2 ^ first) → bit_at word k ≡ 1
  run-set k low high = bit-from word first k low ∙ elim (cases_lt (word / 2 ^ first + 1) (2 ^ 64)) [
    | inl less ↦ (bit_at-trailing_ones w64 (word / 2 ^ first) less).2 (k - first) (omega arith)
    | inr top ↦
        let e = full (word / 2 ^ first) (omega (arith, fits, shr_le word first)) top in
        ap (λ n. bit_at n (k - first)) e
        ∙ bit_at_ones 64 (k - first) (omega (arith, high, full-ones (word / 2 ^ first) e))
  ]

-- ---- rows that are asked for one behind the other

rows-run : (rows : List Bool) (n c : ℕ) → ((k : ℕ) → k < c → slice_get rows (n + k) ≡ Some true)
    → take (n + c) rows ≡ take n rows ++ replicate c true
rows-run rows n zero set = ap (λ k. take k rows) (let e : n + zero ≡ n = omega arith in e)
    ∙ sym (append-nil (take n rows))
rows-run rows n (suc c) set =
    ap (λ k. take k rows) (let e : n + suc c ≡ n + c + 1 = omega arith in e)
    ∙ take-next rows (n + c) true (set c (omega arith))
    ∙ ap (λ xs. xs ++ true ∷ []) (rows-run rows n c (λ k low. set k (omega arith)))
    ∙ append_assoc (take n rows) (replicate c true) (true ∷ [])
    ∙ ap (λ xs. take n rows ++ xs) (replicate_more c true)
    ∙ ap (λ m. take n rows ++ replicate m true) (let e : c + 1 ≡ suc c = omega arith in e)

where-each : {X : Type 0} (c : ℕ) (xs : List X) → length xs ≡ c → where_set (replicate c true) xs ≡ xs
where-each zero [] e = refl
where-each zero (x ∷ xs) e = cc
where-each (suc c) [] e = cc
where-each (suc c) (x ∷ xs) e = ap (λ rest. x ∷ rest) (where-each c xs (let f : length xs ≡ c = omega (arith, e) in f))

-- behind what is asked for of the rows before a run, all of the run
pub rows-more : {X : Type 0} (rows : List Bool) (xs : List X) (first end : ℕ) → length rows ≡ length xs → first ≤ end
    → end ≤ length rows → ((k : ℕ) → first ≤ k → k < end → slice_get rows k ≡ Some true)
    → where_set (take first rows) (take first xs) ++ take (end - first) (drop first xs)
    ≡ where_set (take end rows) (take end xs)
rows-more rows xs first end same order within set =
    sym (
    ap₂ where_set (ap (λ n. take n rows) there ∙ rows-run rows first (end - first) each) (ap (λ n. take n xs) there
    ∙ take-add first (end - first) xs)
    ∙ where-append (take first rows) (replicate (end - first) true) (take first xs) (take (end - first) (drop first xs))
    lengths
    ∙ ap (λ zs. where_set (take first rows) (take first xs) ++ zs) (where-each (end - first) (take (end - first)
    (drop first xs)) long)
    )
  where
    there : end ≡ first + (end - first)
    there = omega (arith, order)

    each : (k : ℕ) → k < end - first → slice_get rows (first + k) ≡ Some true
    each k low = set (first + k) (omega arith) (omega (arith, low))

    lengths : length (take first rows) ≡ length (take first xs)
    lengths =
        let le : first ≤ length rows = omega (arith, order, within) in
        length-take-le first rows le ∙ sym (length-take-le first xs (omega (arith, le, same)))

    long : length (take (end - first) (drop first xs)) ≡ end - first
    long = length-take-le (end - first) (drop first xs) (omega (arith, length-drop first xs, same, within))

-- a word is read of marks, so it is of equal ones
pub read-of : (marks rows : List Bool) (row n word : ℕ) → marks ≡ rows → HoldsMarks word marks row n
    → HoldsMarks word rows row n
read-of marks rows row n word same read k low = ap (λ ms. slice_get ms (row + k)) (sym same) ∙ read k low

-- marks that are read as a word
module _ (rows : List Bool) (row word : ℕ)
    (read : HoldsMarks word rows row 64) where
  mark-read : (k b : ℕ) → row ≤ k → k < row + 64 → bit_at word (k - row) ≡ b → slice_get rows k ≡ Some (b == 1)
  mark-read k b low high is =
      ap (slice_get rows) (let e : k ≡ row + (k - row) = omega arith in e) ∙ read (k - row) (omega arith)
      ∙ ap (λ n. Some (n == 1)) is

  -- those between two places
  pub clear-between : (from place : ℕ) → place ≤ 64 → ((k : ℕ) → from ≤ k → k < place → bit_at word k ≡ 0)
      → (k : ℕ) → row + from ≤ k → k < row + place → slice_get rows k ≡ Some false
  clear-between from place up clear k low high =
      mark-read k 0 (omega (arith, low)) (omega (arith, high, up)) (clear (k - row) (omega (arith, low))
      (omega (arith, low, high)))

  -- all of a word that is full
  pub full-set : word ≡ 18446744073709551615 → (k : ℕ) → row ≤ k → k < row + 64 → slice_get rows k ≡ Some true
  full-set all k low high = mark-read k 1 low high (ap (λ n. bit_at n (k - row)) all
      ∙ bit_at_ones 64 (k - row) (omega (arith, low, high)))

  module _ (fits : word < 2 ^ 64) where
    turned : (k b : ℕ) → k < 64 → bit_at (bit_not w64 word) k ≡ b → b ≤ 1 → bit_at word k ≡ 1 - b
    turned k b low is small = omega (arith, bit_at_not w64 word k fits low, is, bit_at-lt word k, small)

    -- those between two places at which no bit is set of the word with all bits turned over
    pub set-between : (from place : ℕ) → place ≤ 64
        → ((k : ℕ) → from ≤ k → k < place → bit_at (bit_not w64 word) k ≡ 0)
        → (k : ℕ) → row + from ≤ k → k < row + place → slice_get rows k ≡ Some true
    set-between from place up clear k low high =
        let inner : k - row < 64 = omega (arith, low, high, up) in
        mark-read k 1 (omega (arith, low)) (omega (arith, high, up)) (turned (k - row) 0 inner
        (clear (k - row) (omega (arith, low)) (omega (arith, low, high))) (omega arith))

    -- those before as well, if they were set
    pub set-on : (first place : ℕ) → place ≤ 64
        → ((k : ℕ) → first ≤ k → k < row → slice_get rows k ≡ Some true)
        → ((k : ℕ) → 0 ≤ k → k < place → bit_at (bit_not w64 word) k ≡ 0)
        → (k : ℕ) → first ≤ k → k < row + place → slice_get rows k ≡ Some true
    set-on first place up before clear k low high = elim (cases_lt k row) [
      | inl less ↦ before k low less
      | inr here ↦ set-between 0 place up clear k (omega (arith, here)) high
    ]

    -- a bit that is clear is not the next set one
    pub hole-before : (hole place : ℕ) → hole < 64 → bit_at (bit_not w64 word) hole ≡ 1 → hole ≤ place
        → (place < 64 → bit_at word place ≡ 1) → hole < place
    hole-before hole place low clear up set = elim (cases_lt hole place) [
      | inl less ↦ less
      | inr not_less ↦
          let same : place ≡ hole = omega (arith, up, not_less) in
          let here : bit_at word hole ≡ 1 = sym (ap (bit_at word) same) ∙ set (omega (arith, same, low)) in
          absurd (omega (arith, here, turned hole 1 low clear (omega arith)))
    ]

-- the rows of a word
module _ {X : Type 0} (rows : List Bool) (xs : List X) (start word : ℕ) (same : length rows ≡ length xs)
    (inside : start + 64 ≤ length rows)
    (read : HoldsMarks word rows start 64) where
  mark : (k : ℕ) → start ≤ k → k < start + 64 → (b : ℕ) → bit_at word (k - start) ≡ b → slice_get rows k ≡ Some (b == 1)
  mark k low high b is =
      ap (slice_get rows) (let e : k ≡ start + (k - start) = omega arith in e) ∙ read (k - start) (omega arith)
      ∙ ap (λ n. Some (n == 1)) is

  -- up to the first set bit nothing is asked for
  pub run-starts : (first : ℕ) → first ≤ 64 → ((k : ℕ) → 0 ≤ k → k < first → bit_at word k ≡ 0)
      → where_set (take start rows) (take start xs) ≡ where_set (take (start + first) rows) (take (start + first) xs)
  run-starts first up clear =
      sym (where-gap-up rows xs start (start + first) (omega arith) (λ k low high.
      mark k low (omega (arith, up, high)) 0 (clear (k - start) (omega arith) (omega arith))))

  -- a run, and what is not asked for behind it
  pub run-next : (first end next : ℕ) (ys : List X) → first < end → end ≤ next → next ≤ 64
      → ((k : ℕ) → first ≤ k → k < end → bit_at word k ≡ 1) → ((k : ℕ) → end ≤ k → k < next → bit_at word k ≡ 0)
      → take (start + end) xs ≡ take (start + first) xs ++ ys → length ys ≡ end - first
      → where_set (take (start + first) rows) (take (start + first) xs) ++ ys ≡ where_set (take (start + next) rows)
      (take (start + next) xs)
  run-next first end next ys up beyond high set clear cut long =
      sym (
      where-gap-up rows xs (start + end) (start + next) (omega arith) (λ k low up_to.
      mark k (omega arith) (omega arith) 0 (clear (k - start) (omega arith) (omega arith)))
      ∙ ap₂ where_set (ap (λ n. take n rows) there ∙ rows-run rows (start + first) (end - first) each) cut
      ∙ where-append (take (start + first) rows) (replicate (end - first) true) (take (start + first) xs) ys lengths
      ∙ ap (λ zs. where_set (take (start + first) rows) (take (start + first) xs) ++ zs)
      (where-each (end - first) ys long)
      )
    where
      there : start + end ≡ start + first + (end - first)
      there = omega (arith, up)

      each : (k : ℕ) → k < end - first → slice_get rows (start + first + k) ≡ Some true
      each k low = mark (start + first + k) (omega arith) (omega (arith, low, beyond, high)) 1
          (set (start + first + k - start) (omega arith) (omega (arith, low)))

      lengths : length (take (start + first) rows) ≡ length (take (start + first) xs)
      lengths =
          let le : start + first ≤ length rows = omega (arith, inside, up, beyond, high) in
          length-take-le (start + first) rows le ∙ sym (length-take-le (start + first) xs (omega (arith, le, same)))

-- ---- a run of bits, put above others

module _ (kept count run n new : ℕ) (small : kept < 2 ^ count) (low : run < 2 ^ n) (room : count + n ≤ 64)
    (put : new ≡ kept + run * 2 ^ count % 2 ^ 64) where
  plain : new ≡ run * 2 ^ count + kept
  plain = put ∙ ap (λ m. kept + m) (shl_whole run n count 64 low (omega (arith, room)))
      ∙ add_comm kept (run * 2 ^ count)

  pub run-small : new < 2 ^ (count + n)
  run-small = omega (
    arith,
    plain,
    small,
    mul-le-mul_right (2 ^ count) (let le : run + 1 ≤ 2 ^ n =
        omega (arith, low) in le),
    pow-add 2 count n,
  )

  pub run-fits : new < 2 ^ 64
  run-fits = omega (arith, run-small, pow-le-pow_right {n = 2} (omega arith) {i = count + n} {j = 64} room)

  below : HoldsMarks kept (bits_of new (count + n)) 0 count
  below k inner = slice_get-bits new (count + n) k (omega (arith, inner))
      ∙ ap (λ b. Some (b == 1)) (ap (λ m. bit_at m k) plain ∙ bit_at_cat_low run count kept k inner)

  above : HoldsMarks run (bits_of new (count + n)) count n
  above k inner =
      ap (slice_get (bits_of new (count + n))) (let e : count + k ≡ 0 + (count + k) = omega arith in e)
      ∙ slice_get-bits new (count + n) (count + k) (omega (arith, inner))
      ∙ ap (λ b. Some (b == 1)) (ap (λ m. bit_at m (count + k)) plain
      ∙ bit_at_cat_high run count kept (count + k) small (omega arith)
      ∙ ap (bit_at run) (let e : count + k - count ≡ k = omega arith in e))

  pub run-bits : bits_of new (count + n) ≡ bits_of kept count ++ bits_of run n
  run-bits =
      sym (take-length (bits_of new (count + n)))
      ∙ ap (λ m. take m (bits_of new (count + n))) (length-bits new (count + n))
      ∙ take-bits (bits_of new (count + n)) count n run above
      ∙ ap (λ xs. xs ++ bits_of run n) (ap (λ m. take m (bits_of new (count + n))) (let e : count ≡ 0 + count =
      omega arith in e) ∙ take-bits (bits_of new (count + n)) 0 count kept below)

-- the bits of a run
module _ (marks first n run : ℕ) (some : 0 < n) (within : first + n ≤ 64) (is : run ≡ bit_and (marks / 2 ^ first)
    (18446744073709551615 / 2 ^ (64 - n))) where
  ones : 18446744073709551615 / 2 ^ (64 - n) ≡ 2 ^ n - 1
  ones = ones_shr 64 (64 - n) (omega arith) ∙ ap (λ k. 2 ^ k - 1) (let e : 64 - (64 - n) ≡ n =
      omega (arith, within) in e)

  pub run-low : run < 2 ^ n
  run-low = omega (
    arith,
    is,
    ones,
    and_le_r (marks / 2 ^ first) (18446744073709551615 / 2 ^ (64 - n)),
    pow-le-pow_right {n = 2} (omega arith) {i = 0} {j = n} (omega arith),
  )

  run-bit : (k : ℕ) → k < n → bit_at run k ≡ bit_at marks (first + k)
  run-bit k inner =
      ap (λ m. bit_at m k) is
      ∙ bit_at_and (marks / 2 ^ first) (18446744073709551615 / 2 ^ (64 - n)) k
      ∙ ap₂ min (moved-bit marks first k) (ap (λ m. bit_at m k) ones ∙ bit_at_ones n k inner)
      ∙ below-one (bit_at marks (first + k)) (omega arith)
    where
      below-one : (b : ℕ) → b < 2 → min b 1 ≡ b
      below-one b small = omega (arith, small)

  pub run-cut : (end : ℕ) → end ≡ first + n
      → take (0 + end) (bits_of marks 64) ≡ take (0 + first) (bits_of marks 64) ++ bits_of run n
  run-cut end e =
      ap (λ m. take m (bits_of marks 64)) (let f : 0 + end ≡ first + n = omega (arith, e) in f)
      ∙ take-bits (bits_of marks 64) first n run (λ k inner.
      ap (slice_get (bits_of marks 64)) (let f : first + k ≡ 0 + (first + k) = omega arith in f)
      ∙ slice_get-bits marks 64 (first + k) (omega (arith, inner, within))
      ∙ ap (λ b. Some (b == 1)) (sym (run-bit k inner)))
      ∙ ap (λ m. take m (bits_of marks 64) ++ bits_of run n) (let f : first ≡ 0 + first = omega arith in f)
