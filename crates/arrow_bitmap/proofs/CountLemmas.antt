-- Lemmas about set marks that are counted in blocks.
use Rattle.std.proofs.Common.{◌≡◌, ℕ, zero, suc, ◌+◌, ◌*◌, ◌/◌, ◌%◌, ◌^◌, ◌<◌, List, [], ◌∷◌, length, max, min}
use Rattle.std.proofs.Common.{◌==◌, bit_and, bit_or, bit_xor, count_by, not, refl, sym, ap, ap₂, ◌∙◌, arith}
use Rattle.std.proofs.Common.{Fits, get_or, take, w8, w64}
use Rattle.std.specs.Int.{bit_at, bit_not}
use Rattle.std.specs.Int.Count.{ones, ones_step}
use Rattle.std.proofs.Math.Nat.{pow-suc}
use Rattle.std.proofs.lemmas.List.Sums.{sum_by_more, sum_by-cons}
use Rattle.std.proofs.lemmas.Nat.{and_le_l, mod_below, or_lt, xor_lt}
use Rattle.std.proofs.lemmas.Nat.Bits.{bit_at_and, bit_at_lowest, bit_at_not, bit_at_or, bit_at_xor, bit_at-lt, bit_at-suc}
use lib.Lanes.{chunk, digits_l, Each1, number_l, zip2}
use Rattle.arrow_types.proofs.CallerLemmas.{ones-zero}
use Rattle.arrow_bitmap.specs.Blocks.{block_set}
use Rattle.arrow_bitmap.specs.Marks.{block_mark, mark_at, marks}
use Rattle.arrow_bitmap.proofs.BlockLemmas.{block-bit, loaded-mark}
use Rattle.arrow_bitmap.proofs.MarkLemmas.{clear_add, clear_of, clear_of-bit, clear-empty, ones-clear, ones-zeros}

-- ---- digits that are added

-- the lower digit of a sum of three digits, and the higher one
three-digits : (x y z : ℕ) → x < 2 → y < 2 → z < 2
    → ((x + y) % 2 + z) % 2 + 2 * max (min x y) (min ((x + y) % 2) z) ≡ x + y + z
three-digits zero zero zero p q r = refl
three-digits zero zero (suc zero) p q r = refl
three-digits zero (suc zero) zero p q r = refl
three-digits zero (suc zero) (suc zero) p q r = refl
three-digits (suc zero) zero zero p q r = refl
three-digits (suc zero) zero (suc zero) p q r = refl
three-digits (suc zero) (suc zero) zero p q r = refl
three-digits (suc zero) (suc zero) (suc zero) p q r = refl
three-digits zero zero (suc (suc z)) p q r = absurd (omega arith)
three-digits zero (suc zero) (suc (suc z)) p q r = absurd (omega arith)
three-digits (suc zero) zero (suc (suc z)) p q r = absurd (omega arith)
three-digits (suc zero) (suc zero) (suc (suc z)) p q r = absurd (omega arith)
three-digits zero (suc (suc y)) z p q r = absurd (omega arith)
three-digits (suc zero) (suc (suc y)) z p q r = absurd (omega arith)
three-digits (suc (suc x)) y z p q r = absurd (omega arith)

-- numbers each of whose bits are the digits of the sum of three others' bits have as many set bits
ones-added : (w a b c s t : ℕ) → a < 2 ^ w → b < 2 ^ w → c < 2 ^ w → s < 2 ^ w → t < 2 ^ w
    → ((i : ℕ) → i < w → bit_at s i + 2 * bit_at t i ≡ bit_at a i + bit_at b i + bit_at c i)
    → ones s + 2 * ones t ≡ ones a + ones b + ones c
ones-added zero a b c s t p q r u v bits =
    let none : (n : ℕ) → n < 2 ^ 0 → ones n ≡ 0 = λ n lt. ap ones (let e : n ≡ 0 = omega arith in e) ∙ ones-zero in
    omega (arith, none a p, none b q, none c r, none s u, none t v)
ones-added (suc w) a b c s t p q r u v bits =
    let half : (n : ℕ) → n < 2 ^ suc w → n / 2 < 2 ^ w = λ n lt. omega (arith, pow-suc 2 w) in
    let rest = ones-added w (a / 2) (b / 2) (c / 2) (s / 2) (t / 2) (half a p) (half b q) (half c r) (half s u)
    (half t v) (λ i low. ap₂ (λ x y. x + 2 * y) (sym (bit_at-suc s i)) (sym (bit_at-suc t i))
    ∙ bits (suc i) (omega arith)
    ∙ ap₂ ◌+◌ (ap₂ ◌+◌ (bit_at-suc a i) (bit_at-suc b i)) (bit_at-suc c i)) in
    omega (
      arith,
      rest,
      bits 0 (omega arith),
      bit_at_lowest a,
      bit_at_lowest b,
      bit_at_lowest c,
      bit_at_lowest s,
      bit_at_lowest t,
      ones_step a,
      ones_step b,
      ones_step c,
      ones_step s,
      ones_step t,
    )

below-pow : (n : ℕ) → n < 2 ^ n
below-pow zero = omega arith
below-pow (suc n) = omega (arith, below-pow n, pow-suc 2 n)

abbrev pub low_digits : ℕ → ℕ → ℕ → ℕ
low_digits a b c = bit_xor (bit_xor a b) c

abbrev pub high_digits : ℕ → ℕ → ℕ → ℕ
high_digits a b c = bit_or (bit_and a b) (bit_and (bit_xor a b) c)

word-added : (a b c : ℕ) → ones (low_digits a b c) + 2 * ones (high_digits a b c) ≡ ones a + ones b + ones c
word-added a b c =
    let w = a + b + c in
    let p : a < 2 ^ w = omega (arith, below-pow w) in
    let q : b < 2 ^ w = omega (arith, below-pow w) in
    let r : c < 2 ^ w = omega (arith, below-pow w) in
    let x = bit_xor a b in
    let odd : x < 2 ^ w = xor_lt w a b p q in
    ones-added w a b c (low_digits a b c) (high_digits a b c) p q r (xor_lt w x c odd r)
    (or_lt w (bit_and a b) (bit_and x c) (omega (arith, p, and_le_l a b)) (omega (arith, odd, and_le_l x c)))
    (λ i _. ap₂ (λ m n. m + 2 * n)
    (bit_at_xor x c i ∙ ap (λ n. (n + bit_at c i) % 2) (bit_at_xor a b i))
    (bit_at_or (bit_and a b) (bit_and x c) i
    ∙ ap₂ max (bit_at_and a b i) (bit_at_and x c i ∙ ap (λ n. min n (bit_at c i)) (bit_at_xor a b i)))
    ∙ three-digits (bit_at a i) (bit_at b i) (bit_at c i) (bit_at-lt a i) (bit_at-lt b i) (bit_at-lt c i))

-- ---- blocks that are added

abbrev pub lows : List ℕ → List ℕ → List ℕ → List ℕ
lows xs ys zs = zip2 (λ (a b : ℕ). bit_xor a b) (zip2 (λ (a b : ℕ). bit_xor a b) xs ys) zs

abbrev pub highs : List ℕ → List ℕ → List ℕ → List ℕ
highs xs ys zs = zip2 (λ (a b : ℕ). bit_or a b) (zip2 (λ (a b : ℕ). bit_and a b) xs ys)
    (zip2 (λ (a b : ℕ). bit_and a b) (zip2 (λ (a b : ℕ). bit_xor a b) xs ys) zs)

pub blocks-added : (xs ys zs : List ℕ) → length ys ≡ length xs → length zs ≡ length xs
    → block_set (lows xs ys zs) + 2 * block_set (highs xs ys zs) ≡ block_set xs + block_set ys + block_set zs
blocks-added [] [] [] e f = refl
blocks-added [] [] (z ∷ zs) e f = absurd (omega (arith, f))
blocks-added [] (y ∷ ys) zs e f = absurd (omega (arith, e))
blocks-added (x ∷ xs) [] zs e f = absurd (omega (arith, e))
blocks-added (x ∷ xs) (y ∷ ys) [] e f = absurd (omega (arith, f))
blocks-added (x ∷ xs) (y ∷ ys) (z ∷ zs) e f = omega (
  arith,
  blocks-added xs ys zs (omega (arith, e)) (omega (arith, f)),
  word-added x y z,
  sum_by-cons ones x xs,
  sum_by-cons ones y ys,
  sum_by-cons ones z zs,
  sum_by-cons ones (low_digits x y z) (lows xs ys zs),
  sum_by-cons ones (high_digits x y z) (highs xs ys zs),
)

-- ---- set marks of bytes that are read as words

-- the marks of a word
word-set : (bytes : List ℕ) (word place : ℕ) → word < 2 ^ 64
    → ((k : ℕ) → k < 64 → (bit_at word k == 1) ≡ mark_at bytes (place + k))
    → ones word + count_by not (marks bytes place 64) ≡ 64
unfolding marks
word-set bytes word place small same = ap (λ n. ones word + n) (ones-clear (mark_at bytes) 64 place (bit_not w64 word)
    (omega arith) (λ i low.
    bit_at_not w64 word i small low ∙ clear_of-bit (bit_at word i) (bit_at-lt word i) ∙ ap clear_of (same i low)))
    ∙ ones-zeros 64 word small

-- those of several words
pub words-set : (bytes words : List ℕ) (place : ℕ) → Each1 (λ x. x < 2 ^ 64) words
    → ((k : ℕ) → k < 64 * length words → block_mark words k ≡ mark_at bytes (place + k))
    → block_set words + count_by not (marks bytes place (64 * length words)) ≡ 64 * length words
words-set bytes [] place small same = let none : 0 + count_by not (marks bytes place (64 * 0)) ≡ 0 =
    omega (arith, clear-empty bytes place (64 * 0) refl) in none
words-set bytes (x ∷ xs) place small same =
    let next : (k : ℕ) → k < 64 * length xs → block_mark xs k ≡ mark_at bytes (place + 64 + k) = λ k low.
    behind k low in
    omega (
      arith,
      sum_by-cons ones x xs,
      word-set bytes x place small.0 (λ k low. block-bit (x ∷ xs) 0 k low
          ∙ same (64 * 0 + k) (omega arith) ∙ ap (mark_at bytes) (let e : place + (64 * 0 + k) ≡ place + k = omega arith in
          e)),
      words-set bytes xs (place + 64) small.1 next,
      clear_add bytes place 64 (64 * length xs),
      ap (λ n. count_by not (marks bytes place n)) (let e : 64 * suc (length xs) ≡ 64 + 64 * length xs = omega arith in
          e),
    )
  where
    behind : (k : ℕ) → k < 64 * length xs → block_mark xs k ≡ mark_at bytes (place + 64 + k)
    behind k low =
        sym (block-bit xs (k / 64) (k % 64) (omega arith) ∙ ap (block_mark xs) (let e : 64 * (k / 64) + k % 64 ≡ k =
        omega arith in e))
        ∙ block-bit (x ∷ xs) (suc (k / 64)) (k % 64) (omega arith)
        ∙ same (64 * suc (k / 64) + k % 64) (omega arith)
        ∙ ap (mark_at bytes) (let e : place + (64 * suc (k / 64) + k % 64) ≡ place + 64 + k = omega arith in e)

digits-fit : (q n x : ℕ) → 0 < q → Each1 (λ d. d < q) (digits_l q n x)
digits-fit q zero x some = tt
digits-fit q (suc n) x some = (mod_below x q some, digits-fit q n (x / q) some)

-- those of four words
pub loaded-set : (bytes : List ℕ) (first : ℕ) → ((i : ℕ) → Fits w8 (get_or bytes i 0))
    → block_set (digits_l (2 ^ 64) 4 (number_l 256 (chunk first 32 bytes))) + count_by not (marks bytes (8 * first) 256)
    ≡ 256
loaded-set bytes first fits =
    let n = number_l 256 (chunk first 32 bytes) in
    words-set bytes (digits_l (2 ^ 64) 4 n) (8 * first) (digits-fit (2 ^ 64) 4 n (omega arith))
    (loaded-mark bytes first 4 fits)

-- those of four times four words
pub clear-four : (bytes : List ℕ) (first : ℕ) → count_by not (marks bytes (8 * first) 1024)
    ≡ count_by not (marks bytes (8 * first) 256) + count_by not (marks bytes (8 * (first + 32)) 256) + count_by not
    (marks bytes (8 * (first + 64)) 256) + count_by not (marks bytes (8 * (first + 96)) 256)
clear-four bytes first =
    let place : (n : ℕ) → 8 * first + 8 * n ≡ 8 * (first + n) = λ n. omega arith in
    omega (
      arith,
      clear_add bytes (8 * first) 768 256,
      clear_add bytes (8 * first) 512 256,
      clear_add bytes (8 * first) 256 256,
      ap (λ p. count_by not (marks bytes p 256)) (place 32),
      ap (λ p. count_by not (marks bytes p 256)) (place 64),
      ap (λ p. count_by not (marks bytes p 256)) (place 96),
    )

-- those of both halves of a turn
pub clear-halves : (bytes : List ℕ) (first : ℕ) → count_by not (marks bytes (8 * first) 2048)
    ≡ count_by not (marks bytes (8 * first) 1024) + count_by not (marks bytes (8 * (first + 128)) 1024)
clear-halves bytes first = omega (
  arith,
  clear_add bytes (8 * first) 1024 1024,
  ap (λ p. count_by not (marks bytes p 1024)) (let e : 8 * first + 1024 ≡ 8 * (first + 128) = omega arith in e),
)

-- those of one turn more
pub clear_step-turn : (bytes : List ℕ) (first turn : ℕ) → count_by not (marks bytes (8 * first) (2048 * (turn + 1)))
    ≡ count_by not (marks bytes (8 * first) (2048 * turn)) + count_by not (marks bytes (8 * (first + 256 * turn)) 2048)
clear_step-turn bytes first turn = omega (
  arith,
  ap (λ n. count_by not (marks bytes (8 * first) n)) (let e : 2048 * (turn + 1) ≡ 2048 * turn + 2048 = omega arith in e),
  clear_add bytes (8 * first) (2048 * turn) 2048,
  ap (λ p. count_by not (marks bytes p 2048)) (let e : 8 * first + 2048 * turn ≡ 8 * (first + 256 * turn) =
      omega arith in e),
)

-- ---- words that are counted one by one

pub set-more : (words : List ℕ) (i : ℕ) → length words ≡ 4 → i < 4
    → block_set (take (i + 1) words) ≡ block_set (take i words) + ones (get_or words i 0)
set-more words i four low = sum_by_more ones words i 0 (omega (arith, four))
