-- Lemmas about marks that are combined and appended.
use Rattle.std.proofs.Common.{◌≡◌, ℕ, ◌+◌, ◌*◌, ◌-◌, ◌<◌, ◌≤◌, Bool, not, List, [], ◌∷◌, ◌++◌, map, length, ap, ap₂}
use Rattle.std.proofs.Common.{refl, sym, subst, Some, slice_get, drop, get_or, get_or-take, length-drop, length-take}
use Rattle.std.proofs.Common.{take, unwrap_or, ◌∙◌, inl, inr, arith, zero-add, true, false, cond, count_by, ◌==◌}
use Rattle.std.specs.Int.{bit_at}
use Rattle.std.specs.List.{zip}
use Rattle.std.proofs.lemmas.List.{get_or-drop, get_or-map, get_or_default, length-map, same_lists}
use Rattle.std.proofs.lemmas.Option.{slice_get-get_or}
use Rattle.std.proofs.lemmas.Slice.Zip.{get_or-zip, length-zip}
use Rattle.std.proofs.lemmas.Bool.{cases_lt}
use Rattle.std.proofs.lemmas.List.Sums.{sum_by-cons}
use Rattle.arrow_bitmap.specs.Marks.{block_mark, mark_at, marks}
use Rattle.arrow_bitmap.specs.MarkWrites.{AppendsCombined, KeepsMarks, WritesCombined}
use Rattle.arrow_bitmap.proofs.CopyLemmas.{mark_at-behind, mark_at-one}
use Rattle.arrow_bitmap.proofs.MarkLemmas.{clear_add, get_or-marks, length-marks, mark_at-append, marks-add, same_marks}

-- what is read at an index
pub read-mark : (xs : List Bool) (i : ℕ) (v : Bool) → i < length xs → slice_get xs i ≡ Some v → get_or xs i false ≡ v
read-mark xs i v low is = ap (λ o. unwrap_or o false) (sym (slice_get-get_or xs i false low) ∙ is)

-- two marks that are read, and combined
pub read-pair : (op : Bool → Bool → Bool) (xs ys : List Bool) (i : ℕ) (v w : Bool) → i < length xs → i < length ys
    → slice_get xs i ≡ Some v → slice_get ys i ≡ Some w → op v w ≡ op (get_or xs i false) (get_or ys i false)
read-pair op xs ys i v w low lower is other =
    sym (ap₂ op (read-mark xs i v low is) (read-mark ys i w lower other))

-- bytes of combined marks are appended
pub appends-bytes : (op : Bool → Bool → Bool) (first second : List Bool) (from n : ℕ) (old more new : List ℕ)
    → new ≡ old ++ more
    → ((k : ℕ) → k < n → mark_at more k ≡ op (get_or first (from + k) false) (get_or second (from + k) false))
    → AppendsCombined op first second from n old new
appends-bytes op first second from n old more new is bits = record {
  kept = λ k low. ap (λ xs. mark_at xs k) is ∙ mark_at-append old more k low;
  added = λ k low.
      let place : 8 * length old + k - 8 * length old ≡ k = omega arith in
      ap (λ xs. mark_at xs (8 * length old + k)) is
      ∙ mark_at-behind old more (length old) (8 * length old + k) refl (omega arith) ∙ ap (mark_at more) place
      ∙ bits k low;
}

pub appends-none : (op : Bool → Bool → Bool) (first second : List Bool) (from n : ℕ) (old : List ℕ) → n ≡ 0
    → AppendsCombined op first second from n old old
appends-none op first second from n old none = record {
  kept = λ k low. refl;
  added = λ k low. absurd (omega (arith, low, none));
}

-- and more behind them, t in all
pub appends-more : (op : Bool → Bool → Bool) (first second : List Bool) (n m t : ℕ) (old mid new : List ℕ)
    → 8 * length mid ≡ 8 * length old + n → t ≡ n + m → AppendsCombined op first second 0 n old mid
    → AppendsCombined op first second n m mid new → AppendsCombined op first second 0 t old new
appends-more op first second n m t old mid new long all before more = record {
  kept = λ k low. more.kept k (omega (arith, low, long)) ∙ before.kept k low;
  added = λ k low. elim (cases_lt k n) [
    | inl here ↦ more.kept (8 * length old + k) (omega (arith, here, long)) ∙ before.added k here
    | inr past ↦
        let behind : 8 * length old + k ≡ 8 * length mid + (k - n) = omega (arith, past, long) in
        let place : n + (k - n) ≡ 0 + k = omega (arith, past) in
        ap (mark_at new) behind ∙ more.added (k - n) (omega (arith, past, low, all))
        ∙ ap (λ i. op (get_or first i false) (get_or second i false)) place
  ];
}

-- fewer of them
pub appends-fewer : (op : Bool → Bool → Bool) (first second : List Bool) (from n m : ℕ) (old new : List ℕ) → m ≤ n
    → AppendsCombined op first second from n old new → AppendsCombined op first second from m old new
appends-fewer op first second from n m old new le appends = record {
  kept = appends.kept;
  added = λ k low. appends.added k (omega (arith, low, le));
}

-- n marks are written, and then 512, some of which may be among these: t in all
pub writes-block : (op : Bool → Bool → Bool) (first second : List Bool) (from at n t : ℕ) (old mid new block : List ℕ)
    → at ≤ n → t ≡ at + 512 → ((i : ℕ) → i < 8 * from + at → mark_at new i ≡ mark_at mid i)
    → ((k : ℕ) → k < 512 → mark_at new (8 * from + at + k) ≡ block_mark block k)
    → ((k : ℕ) → k < 512 → block_mark block k ≡ op (get_or first (at + k) false) (get_or second (at + k) false))
    → WritesCombined op first second from n old mid → WritesCombined op first second from t old new
writes-block op first second from at n t old mid new block le all stays puts bits before = record {
  kept = λ i low. stays i (omega (arith, low)) ∙ before.kept i low;
  written = λ k low. elim (cases_lt k at) [
    | inl here ↦ stays (8 * from + k) (omega (arith, here)) ∙ before.written k (omega (arith, here, le))
    | inr past ↦
        let place : 8 * from + k ≡ 8 * from + at + (k - at) = omega (arith, past) in
        let few : k - at < 512 = omega (arith, past, low, all) in
        let same : at + (k - at) ≡ k = omega (arith, past) in
        ap (mark_at new) place ∙ puts (k - at) few ∙ bits (k - at) few
        ∙ ap (λ i. op (get_or first i false) (get_or second i false)) same
  ];
}

-- those of a part of both lists
pub appends-part : (op : Bool → Bool → Bool) (first second xs ys : List Bool) (a n m : ℕ) (old new : List ℕ) → m ≤ n
    → xs ≡ take n (drop a first) → ys ≡ take n (drop a second)
    → AppendsCombined op xs ys 0 m old new → AppendsCombined op first second a m old new
appends-part op first second xs ys a n m old new le is other appends = record {
  kept = appends.kept;
  added = λ k low.
      let place : 0 + k ≡ k = omega arith in
      appends.added k low ∙ ap₂ op (part first xs k is (omega (arith, low, le)) ∙ ap (λ i. get_or first i false) (ap (λ i. a + i) place))
      (part second ys k other (omega (arith, low, le)) ∙ ap (λ i. get_or second i false) (ap (λ i. a + i) place));
}
  where
    part : (zs ps : List Bool) (k : ℕ) → ps ≡ take n (drop a zs) → k < n → get_or ps (0 + k) false ≡ get_or zs (a + (0 + k)) false
    part zs ps k e low = ap (λ qs. get_or qs (0 + k) false) e
        ∙ get_or-take n (drop a zs) (0 + k) false (omega (arith, low)) ∙ get_or-drop a zs (0 + k) false

-- bytes whose marks from index p on are a list
pub marked-from : (bytes : List ℕ) (p : ℕ) (xs : List Bool) → marks bytes p (length xs) ≡ xs → (k place : ℕ)
    → k < length xs → place ≡ p + k → mark_at bytes place ≡ get_or xs k false
marked-from bytes p xs is k place low at = ap (mark_at bytes) at ∙ sym (get_or-marks bytes p (length xs) k false low)
    ∙ ap (λ ys. get_or ys k false) is

pub marked : (bytes : List ℕ) (xs : List Bool) → marks bytes 0 (length xs) ≡ xs → (k : ℕ) → k < length xs
    → mark_at bytes k ≡ get_or xs k false
marked bytes xs is k low = marked-from bytes 0 xs is k k low (sym (zero-add k))

-- a byte is pushed behind combined marks: of its bits, those are marks for which there are marks to combine
pub appends-byte : (op : Bool → Bool → Bool) (first second : List Bool) (i : ℕ) (old mid new : List ℕ) (b : ℕ)
    → length mid ≡ length old + i → new ≡ mid ++ b ∷ []
    → ((k : ℕ) → k < 8 → 8 * i + k < length first
    → (bit_at b k == 1) ≡ op (get_or first (8 * i + k) false) (get_or second (8 * i + k) false))
    → ((n : ℕ) → n ≤ 8 * i → n ≤ length first → AppendsCombined op first second 0 n old mid)
    → (n : ℕ) → n ≤ 8 * (i + 1) → n ≤ length first → AppendsCombined op first second 0 n old new
appends-byte op first second i old mid new b long is bits before n few within = record {
  kept = λ k low. stays k (omega (arith, low, long)) ∙ (before 0 (omega arith) (omega arith)).kept k low;
  added = λ k low. elim (cases_lt k (8 * i)) [
    | inl here ↦ stays (8 * length old + k) (omega (arith, here, long))
        ∙ (before (k + 1) (omega (arith, here)) (omega (arith, low, within))).added k (omega arith)
    | inr past ↦
        let place : 8 * length old + k - 8 * length mid ≡ k - 8 * i = omega (arith, past, long) in
        let inner : k - 8 * i < 8 = omega (arith, past, low, few) in
        let same : 8 * i + (k - 8 * i) ≡ 0 + k = omega (arith, past) in
        ap (λ xs. mark_at xs (8 * length old + k)) is
        ∙ mark_at-behind mid (b ∷ []) (length mid) (8 * length old + k) refl (omega (arith, past, long))
        ∙ ap (mark_at (b ∷ [])) place ∙ mark_at-one b (k - 8 * i) inner
        ∙ bits (k - 8 * i) inner (omega (arith, same, low, within))
        ∙ ap (λ j. op (get_or first j false) (get_or second j false)) same
  ];
}
  where
    stays : (j : ℕ) → j < 8 * length mid → mark_at new j ≡ mark_at mid j
    stays j low = ap (λ xs. mark_at xs j) is ∙ mark_at-append mid (b ∷ []) j low

pub length-part : (xs ps : List Bool) (a n : ℕ) → ps ≡ take n (drop a xs) → a + n ≤ length xs → length ps ≡ n
length-part xs ps a n is within =
    omega (arith, within, ap length is, length-take n (drop a xs), length-drop a xs)

-- first marks that stay
pub same-first : (xs ys : List ℕ) (n : ℕ) → ((i : ℕ) → i < n → mark_at xs i ≡ mark_at ys i) → marks xs 0 n ≡ marks ys 0 n
same-first xs ys n same = same_marks xs ys 0 0 n (λ i low.
    ap (mark_at xs) (zero-add i) ∙ same i low ∙ ap (mark_at ys) (sym (zero-add i)))

-- marks that lie behind others
pub marks-behind : (old new : List ℕ) (n c : ℕ) (ys : List Bool) → length ys ≡ c
    → ((i : ℕ) → i < n → mark_at new i ≡ mark_at old i) → ((k : ℕ) → k < c → mark_at new (n + k) ≡ get_or ys k false)
    → marks new 0 (n + c) ≡ marks old 0 n ++ ys
marks-behind old new n c ys long kept added = marks-add new 0 n c ∙ ap₂ ◌++◌
    (same-first new old n kept)
    (same_lists _ _ (length-marks new (0 + n) c ∙ sym long) (λ i d within.
    let low : i < c = subst (λ m. i < m) (length-marks new (0 + n) c) within in
    let inside : i < length ys = omega (arith, low, long) in
    get_or-marks new (0 + n) c i d low ∙ ap (λ k. mark_at new (k + i)) (zero-add n) ∙ added i low
    ∙ get_or_default ys i false d inside))

-- marks that end within a byte, followed by others: first those that fill this byte, then whole bytes
module _ (old joined : List ℕ) (len head : ℕ) (ys : List Bool) (whole : 8 * length joined ≡ len + head)
    (before : (i : ℕ) → i < len → mark_at joined i ≡ mark_at old i)
    (put : (k : ℕ) → k < head → k < length ys → mark_at joined (len + k) ≡ get_or ys k false) where
  pub joined-marks : length ys ≤ head → marks joined 0 (len + length ys) ≡ marks old 0 len ++ ys
  joined-marks few = marks-behind old joined len (length ys) ys refl before (λ k low. put k (omega (arith, low, few)) low)

  extended-kept : (new : List ℕ) → KeepsMarks joined new → (i : ℕ) → i < len → mark_at new i ≡ mark_at old i
  extended-kept new kept i low = kept i (omega (arith, low, whole)) ∙ before i low

  pub extended-marks : (new : List ℕ) → KeepsMarks joined new
      → ((j : ℕ) → head + j < length ys → mark_at new (8 * length joined + j) ≡ get_or ys (head + j) false)
      → marks new 0 (len + length ys) ≡ marks old 0 len ++ ys
  extended-marks new kept added = marks-behind old new len (length ys) ys refl (extended-kept new kept) (λ k low.
      elim (cases_lt k head) [
        | inl here ↦ kept (len + k) (omega (arith, here, whole)) ∙ put k here low
        | inr past ↦
            let place : len + k ≡ 8 * length joined + (k - head) = omega (arith, past, whole) in
            let same : head + (k - head) ≡ k = omega (arith, past) in
            ap (mark_at new) place ∙ added (k - head) (omega (arith, past, low)) ∙ ap (λ i. get_or ys i false) same
      ])

-- clear marks of bytes that stay, and of those behind them
pub clear-appended : (op : Bool → Bool → Bool) (first second : List Bool) (n m p t : ℕ) (old new : List ℕ)
    → n ≤ 8 * length old → p ≡ n → t ≡ n + m → KeepsMarks old new
    → count_by not (marks old 0 n) + count_by not (marks new p m) ≡ count_by not (marks new 0 t)
clear-appended op first second n m p t old new le at all kept =
    let same : marks old 0 n ≡ marks new 0 n = same-first old new n (λ i low. sym (kept i (omega (arith, low, le)))) in
    let here : p ≡ 0 + n = omega (arith, at) in
    ap₂ ◌+◌ (ap (count_by not) same) (ap (λ q. count_by not (marks new q m)) here)
    ∙ sym (ap (λ k. count_by not (marks new 0 k)) all ∙ clear_add new 0 n m)

-- a part of two lists that is combined behind those before it
module _ (op : Bool → Bool → Bool) (first second xs ys : List Bool) (a n m t : ℕ) (mid new : List ℕ) (le : m ≤ n)
    (is : xs ≡ take n (drop a first)) (other : ys ≡ take n (drop a second)) (long : 8 * length mid ≡ a)
    (all : t ≡ a + m) (before : AppendsCombined op first second 0 a [] mid)
    (more : AppendsCombined op xs ys 0 m mid new) where
  pub part-appended : AppendsCombined op first second 0 t [] new
  part-appended = appends-more op first second a m t [] mid new (omega (arith, long)) all before
      (appends-part op first second xs ys a n m mid new le is other more)

  pub part-counted : (p b d : ℕ) → p ≡ a → b ≡ count_by not (marks mid 0 a) → d ≡ count_by not (marks new p m)
      → b + d ≡ count_by not (marks new 0 t)
  part-counted p b d at counted clear = ap₂ ◌+◌ counted clear
      ∙ clear-appended op first second a m p t mid new (omega (arith, long)) at all more.kept

-- all marks of two lists, combined
pub marks-combined : (op : Bool → Bool → Bool) (new : List ℕ) (xs ys : List Bool) (n : ℕ) → length xs ≡ n
    → length ys ≡ n → ((k : ℕ) → k < n → mark_at new k ≡ op (get_or xs k false) (get_or ys k false))
    → marks new 0 n ≡ map (λ (pair : Bool × Bool). op pair.0 pair.1) (zip xs ys)
marks-combined op new xs ys n long other combined = same_lists _ _ (length-marks new 0 n ∙ sym all) (λ i d within.
    let low : i < n = subst (λ m. i < m) (length-marks new 0 n) within in
    let left : i < length xs = omega (arith, low, long) in
    let right : i < length ys = omega (arith, low, other) in
    get_or-marks new 0 n i d low ∙ ap (mark_at new) (zero-add i) ∙ combined i low
    ∙ sym (get_or-map (λ (pair : Bool × Bool). op pair.0 pair.1) (zip xs ys) i (false, false) d (subst (λ m. i < m) (sym both) low)
    ∙ ap (λ (pair : Bool × Bool). op pair.0 pair.1) (get_or-zip xs ys i (false, false) left right)))
  where
    both : length (zip xs ys) ≡ n
    both = omega (arith, length-zip xs ys, long, other)

    all : length (map (λ (pair : Bool × Bool). op pair.0 pair.1) (zip xs ys)) ≡ n
    all = length-map (zip xs ys) (λ (pair : Bool × Bool). op pair.0 pair.1) ∙ both

pub all-combined : (op : Bool → Bool → Bool) (old new : List ℕ) (xs ys : List Bool) (n : ℕ) → length old ≡ 0
    → length xs ≡ n → length ys ≡ n → AppendsCombined op xs ys 0 n old new
    → marks new 0 n ≡ map (λ (pair : Bool × Bool). op pair.0 pair.1) (zip xs ys)
all-combined op old new xs ys n none long other appends = marks-combined op new xs ys n long other (λ k low.
    let place : k ≡ 8 * length old + k = omega (arith, none) in
    ap (mark_at new) place ∙ appends.added k low
    ∙ ap (λ i. op (get_or xs i false) (get_or ys i false)) (zero-add k))

-- those of one list, each beside itself
pub map-first : (f : Bool → Bool) (xs : List Bool) → map (λ (pair : Bool × Bool). f pair.0) (zip xs xs) ≡ map f xs
map-first f [] = refl
map-first f (x ∷ xs) = ap (λ ys. f x ∷ ys) (map-first f xs)

-- a mark is clear in a list, or in that of the opposites
pub both-counts : (xs : List Bool) → count_by not (map not xs) + count_by not xs ≡ length xs
both-counts [] = refl
both-counts (true ∷ xs) =
    let opposite : count_by not (map not (true ∷ xs)) ≡ 1 + count_by not (map not xs) =
    sum_by-cons (λ v. cond (not v) 1 0) false (map not xs) in
    let set : count_by not (true ∷ xs) ≡ 0 + count_by not xs = sum_by-cons (λ v. cond (not v) 1 0) true xs in
    omega (arith, opposite, set, both-counts xs)
both-counts (false ∷ xs) =
    let opposite : count_by not (map not (false ∷ xs)) ≡ 0 + count_by not (map not xs) =
    sum_by-cons (λ v. cond (not v) 1 0) true (map not xs) in
    let clear : count_by not (false ∷ xs) ≡ 1 + count_by not xs = sum_by-cons (λ v. cond (not v) 1 0) false xs in
    omega (arith, opposite, clear, both-counts xs)
