-- One test of a window and a look at each inner offset are a test of each item.
use Rattle.std.proofs.Common.{◌≡◌, ℕ, zero, suc, ◌+◌, ◌-◌, ◌<◌, ◌≤◌, ◌↔◌, Bool, true, false, not, ◌&&◌, IsTrue}
use Rattle.std.proofs.Common.{Some, slice_get, List, [], ◌∷◌, ◌++◌, length, take, drop, get_or, refl, sym, ap, ◌∙◌}
use Rattle.std.proofs.Common.{subst, inl, inr, arith, length-take, length-drop}
use Rattle.std.specs.Prelude.{slice_range}
use Rattle.std.proofs.lemmas.Bool.{cases_lt, false≢true}
use Rattle.std.proofs.lemmas.List.{drop_all, take_all, drop-drop, drop-take, take-take, take-append-drop, get_or-take, get_or-drop}
use Rattle.std.proofs.lemmas.Option.{get_or_from_slice_get}
use Rattle.std.proofs.lemmas.List.Elements.{All-from_recursion, recursion_from_All, All-from_get_or, All-get_or}
use Rattle.std.proofs.lemmas.Str.{IsUtf8-append, IsUtf8-nil, IsUtf8-take, IsUtf8-drop, IsCharBoundary-start}
use Rattle.std.specs.List.{All, AllByRecursion}
use Rattle.std.specs.Str.{IsAscii, IsNotAscii, IsCharBoundary}
use Rattle.arrow_memory.specs.Offsets.{first_of, last_of, NeverFalls, IsOffsets}
use Rattle.arrow_check.specs.Pieces.{items_after, items_of}
use Rattle.arrow_check.specs.Texts.{AreTexts, CutTexts}
use Rattle.arrow_check.specs.Utf8.{IsWellFormed}
use Rattle.arrow_check.specs.Windows.{IsContinuation, window_of, AllBegin, CutsBetween, InnerCutBetween, PassesWhole}
use Rattle.arrow_check.proofs.Utf8Lemmas.{well_formed-IsUtf8}

-- ---- texts that are joined and cut

pub texts-join : (a b : List ℕ) → IsWellFormed a → IsWellFormed b → IsWellFormed (a ++ b)
texts-join a b first second =
    (well_formed-IsUtf8 (a ++ b)).1 (IsUtf8-append a b ((well_formed-IsUtf8 a).0 first)
    ((well_formed-IsUtf8 b).0 second))

pub no-bytes : IsWellFormed []
no-bytes = (well_formed-IsUtf8 []).1 IsUtf8-nil

-- a place that is the end, or where no continuation byte stands
boundary : (bytes : List ℕ) (n : ℕ) → n ≤ length bytes → CutsBetween (length bytes) bytes n → IsCharBoundary bytes n
boundary bytes n within (inl end) = (within, λ more. absurd (omega (arith, end)))
boundary bytes n within (inr start) = (
  within,
  λ more high. elim (cases_lt (get_or bytes n 0) 192)
      [ inl low ↦ absurd (start (omega arith, omega arith)) | inr other ↦ other ],
)

pub text-cut : (bytes : List ℕ) (n : ℕ) → IsWellFormed bytes → n ≤ length bytes → CutsBetween (length bytes) bytes n
    → IsWellFormed (take n bytes) × IsWellFormed (drop n bytes)
text-cut bytes n text within cuts =
    let utf8 = (well_formed-IsUtf8 bytes).0 text in
    let at = boundary bytes n within cuts in (
      (well_formed-IsUtf8 (take n bytes)).1 (IsUtf8-take bytes n utf8 at),
      (well_formed-IsUtf8 (drop n bytes)).1 (IsUtf8-drop bytes n utf8 at),
    )

-- a cut past the end leaves the text as it is, and nothing behind it
pub text-cut-at : (bytes : List ℕ) (n : ℕ) → IsWellFormed bytes → CutsBetween (length bytes) bytes n
    → IsWellFormed (take n bytes) × IsWellFormed (drop n bytes)
text-cut-at bytes n text cuts =
    elim (cases_lt (length bytes) n) [
      | inl past ↦ (
        subst IsWellFormed (sym (take_all n bytes (omega (arith, past)))) text,
        subst IsWellFormed (sym (drop_all n bytes (omega (arith, past)))) no-bytes,
      )
      | inr within ↦ text-cut bytes n text within cuts
    ]

-- a text begins with no continuation byte
pub text-start : (bytes : List ℕ) → IsWellFormed bytes → 0 < length bytes → ¬ IsContinuation (get_or bytes 0 0)
text-start bytes text some both =
    let high = (IsCharBoundary-start bytes ((well_formed-IsUtf8 bytes).0 text)).1 some both.0 in
    omega (arith, high, both.1)

-- ---- pieces of a window

module _ (bytes : List ℕ) (s m e : ℕ) (low : s ≤ m) (high : m ≤ e) where
  front : take (m - s) (slice_range bytes s e) ≡ slice_range bytes s m
  front = take-take (m - s) (e - s) (drop s bytes) (omega arith)

  back : drop (m - s) (slice_range bytes s e) ≡ slice_range bytes m e
  back =
      let all : e - s ≡ (m - s) + (e - m) = omega arith in
      let place : s + (m - s) ≡ m = omega arith in
      ap (λ k. drop (m - s) (take k (drop s bytes))) all
      ∙ drop-take (m - s) (e - m) (drop s bytes)
      ∙ ap (take (e - m)) (drop-drop (m - s) s bytes ∙ ap (λ k. drop k bytes) place)

  whole : slice_range bytes s m ++ slice_range bytes m e ≡ slice_range bytes s e
  whole = (λ k. sym front k ++ sym back k) ∙ take-append-drop (m - s) (slice_range bytes s e)

length-window : (bytes : List ℕ) (s e : ℕ) → s ≤ e → e ≤ length bytes → length (slice_range bytes s e) ≡ e - s
length-window bytes s e low high = simp (length-take, length-drop) (omega arith)

byte-window : (bytes : List ℕ) (s e k : ℕ) → s + k < e → get_or (slice_range bytes s e) k 0 ≡ get_or bytes (s + k) 0
byte-window bytes s e k low = get_or-take (e - s) (drop s bytes) k 0 (omega arith) ∙ get_or-drop s bytes k 0

-- ---- items one after the other

-- these offsets follow start, rise, and end at last
abbrev Rise : ℕ → ℕ → List ℕ → Type 0
Rise last start [] = start ≡ last
Rise last start (end ∷ ends) = (start ≤ end) × Rise last end ends

rise-le : (last start : ℕ) (ends : List ℕ) → Rise last start ends → start ≤ last
rise-le last start [] same = omega (arith, same)
rise-le last start (end ∷ ends) (up, more) = omega (arith, up, rise-le last end ends more)

rise : (last start : ℕ) (ends : List ℕ) → NeverFalls (start ∷ ends) → last ≡ get_or (start ∷ ends) (length ends) 0
    → Rise last start ends
rise last start [] order same = sym same
rise last start (end ∷ ends) order same = (
  order 0 1 (omega arith) (omega arith),
  rise last end ends (λ i j up within.
      order (suc i) (suc j) (omega arith) (omega arith)) same,
)

module _ (bytes : List ℕ) (last : ℕ) (within : last ≤ length bytes) where
  -- the items are texts, so what they make up is, and no offset cuts a character of it
  joined : (start : ℕ) (ends : List ℕ) → Rise last start ends
      → AllByRecursion IsWellFormed (items_after start ends bytes)
      → IsWellFormed (slice_range bytes start last) × AllByRecursion (CutsBetween last bytes) ends
  joined start [] same all =
      let none : last - start ≡ 0 = omega (arith, same) in
      (subst (λ k. IsWellFormed (take k (drop start bytes))) (sym none) no-bytes, tt)
  joined start (end ∷ ends) (up, more) all =
      let rest = joined end ends more all.1 in
      let below = rise-le last end ends more in
      let cuts : CutsBetween last bytes end = elim (cases_lt end last) [
        | inl inner ↦ inr (
            let some : 0 < length (slice_range bytes end last) =
            omega (arith, length-window bytes end last below within) in
            let place : end + 0 ≡ end = omega arith in
            subst (λ b. ¬ IsContinuation b) (byte-window bytes end last 0 (omega arith)
            ∙ ap (λ k. get_or bytes k 0) place) (text-start (slice_range bytes end last) rest.0 some))
        | inr past ↦ inl (let same : end ≡ last = omega arith in same)
      ] in
      (subst IsWellFormed (whole bytes start end last up below) (texts-join _ _ all.0 rest.0), (cuts, rest.1))

  -- and the other way
  parted : (start : ℕ) (ends : List ℕ) → Rise last start ends → IsWellFormed (slice_range bytes start last)
      → AllByRecursion (CutsBetween last bytes) ends → AllByRecursion IsWellFormed (items_after start ends bytes)
  parted start [] same text all = tt
  parted start (end ∷ ends) (up, more) text (cuts, others) =
      let below = rise-le last end ends more in
      let long = length-window bytes start last (omega (arith, up, below)) within in
      let at : CutsBetween (length (slice_range bytes start last)) (slice_range bytes start last) (end - start)
      = elim cuts [
        | inl same ↦ inl (let e : end - start ≡ length (slice_range bytes start last) =
            omega (arith, long, same) in e)
        | inr begins ↦ elim (cases_lt end last) [
          | inl inner ↦ inr (
              let place : start + (end - start) ≡ end = omega arith in
              subst (λ b. ¬ IsContinuation b) (sym (byte-window bytes start last (end - start) (omega arith)
              ∙ ap (λ k. get_or bytes k 0) place)) begins)
          | inr past ↦ inl (let e : end - start ≡ length (slice_range bytes start last) = omega (arith, long) in e)
        ]
      ] in
      let both = text-cut (slice_range bytes start last) (end - start) text (omega (arith, long)) at in (
        subst IsWellFormed (front bytes start end last up below) both.0,
        parted end ends more (subst IsWellFormed (back bytes start end last up below) both.1) others,
      )

-- ---- the inner offsets by their places

cuts-all : (start : ℕ) (ends bytes : List ℕ) → InnerCutBetween (start ∷ ends) bytes
    → All (CutsBetween (last_of (start ∷ ends)) bytes) ends
cuts-all start ends bytes inner =
    All-from_get_or (CutsBetween (last_of (start ∷ ends)) bytes) ends 0 (λ i low.
    elim (cases_lt (i + 1) (length ends)) [
      | inl more ↦ inner (suc i) (omega arith) (omega arith)
      | inr end ↦ inl (ap (λ k. get_or (start ∷ ends) k 0) (let e : suc i ≡ length (start ∷ ends) - 1 =
          omega arith in e))
    ])

inner-cut : (start : ℕ) (ends bytes : List ℕ) → All (CutsBetween (last_of (start ∷ ends)) bytes) ends
    → InnerCutBetween (start ∷ ends) bytes
inner-cut start ends bytes all zero some more = absurd (omega arith)
inner-cut start ends bytes all (suc i) some more = All-get_or (CutsBetween (last_of (start ∷ ends)) bytes) ends i 0
    (omega arith) all

last-is : (start : ℕ) (ends : List ℕ) → last_of (start ∷ ends) ≡ get_or (start ∷ ends) (length ends) 0
last-is start ends = ap (λ k. get_or (start ∷ ends) k 0) (let e : length (start ∷ ends) - 1 ≡ length ends =
    omega arith in e)

-- one test of the window, and where the inner offsets stand, are a test of each item
pub slots-by-window : (offsets bytes : List ℕ) → IsOffsets offsets → last_of offsets ≤ length bytes
    → AreTexts (items_of offsets bytes) ↔ (IsWellFormed (window_of offsets bytes) × InnerCutBetween offsets bytes)
slots-by-window [] bytes legal within = absurd (omega (arith, legal.some))
slots-by-window (start ∷ ends) bytes legal within =
    let last = last_of (start ∷ ends) in
    let up = rise last start ends legal.order (last-is start ends) in
    let P = CutsBetween last bytes in (
      λ all. (let both = joined bytes last within start ends up
          (recursion_from_All IsWellFormed (items_after start ends bytes) all) in
          (both.0, inner-cut start ends bytes (All-from_recursion (CutsBetween last bytes) ends both.1))),
      λ both. All-from_recursion IsWellFormed (items_after start ends bytes)
          (parted bytes last within start ends up both.0 (recursion_from_All (CutsBetween last bytes) ends
          (cuts-all start ends bytes both.1))),
    )

-- ---- a window as the code reads it

byte-at : (numbers old now : List ℕ) (i place byte : ℕ) → now ≡ old → place ≡ get_or numbers i 0
    → slice_get now place ≡ Some byte
    → byte ≡ get_or old (get_or numbers i 0) 0
byte-at numbers old now i place byte stays is found = sym (get_or_from_slice_get now place byte 0 found)
    ∙ (λ k. get_or (stays k) (is k) 0)

-- one offset more was looked at
pub begin-more : (numbers old now : List ℕ) (from i place byte : ℕ) (begins goes : Bool) → now ≡ old → from ≤ i
    → place ≡ get_or numbers i 0 → slice_get now place ≡ Some byte → (IsTrue goes ↔ IsContinuation byte)
    → (IsTrue begins ↔ AllBegin from i numbers old) → (IsTrue (begins && not goes) ↔ AllBegin from (i + 1) numbers old)
begin-more numbers old now from i place byte false goes stays past is found says so_far =
    (λ no. absurd (false≢true no), λ all. so_far.1 (λ k low high. all k low (omega arith)))
begin-more numbers old now from i place byte true true stays past is found says so_far = (
  λ no. absurd (false≢true no),
  λ all.
      absurd (all i past (omega arith) (subst IsContinuation (byte-at numbers old now i place byte stays is found)
      (says.0 refl))),
)
begin-more numbers old now from i place byte true false stays past is found says so_far =
    let here : ¬ IsContinuation (get_or old (get_or numbers i 0) 0) = λ goes.
    false≢true (says.1 (subst IsContinuation (sym (byte-at numbers old now i place byte stays is found)) goes))
    in (
      λ _ k low high. elim (cases_lt k i) [
        | inl before ↦ so_far.0 refl k low before
        | inr past ↦ (let e : i ≡ k = omega arith in
            subst (λ j. ¬ IsContinuation (get_or old (get_or numbers j 0) 0)) e here)
      ],
      λ _. refl,
    )

-- what was looked at in two goes
pub begin-join : (numbers old now : List ℕ) (from i upto : ℕ) (first second : Bool) → now ≡ old → from ≤ i → i ≤ upto
    → (IsTrue first ↔ AllBegin from i numbers old) → (IsTrue second ↔ AllBegin i upto numbers now)
    → (IsTrue (first && second) ↔ AllBegin from upto numbers old)
begin-join numbers old now from i upto false second stays low high before behind =
    (λ no. absurd (false≢true no), λ all. before.1 (λ k some few. all k some (omega arith)))
begin-join numbers old now from i upto true second stays low high before behind = (
  λ yes k some few. elim (cases_lt k i) [
    | inl early ↦ before.0 refl k some early
    | inr later ↦ subst (λ b. ¬ IsContinuation (get_or b (get_or numbers k 0) 0)) stays
        (behind.0 yes k (omega arith) few)
  ],
  λ all. behind.1 (λ k some few. subst (λ b. ¬ IsContinuation (get_or b (get_or numbers k 0) 0)) (sym stays)
      (all k (omega arith) few)),
)

-- ---- a window of ASCII

pub not-ascii : (bytes : List ℕ) → IsNotAscii bytes → ¬ (IsAscii bytes)
not-ascii bytes high ascii = omega (arith, ascii high.0, high.1)

-- no inner offset cuts a character of it
pub ascii-cuts : (offsets bytes : List ℕ) → IsOffsets offsets → IsAscii (window_of offsets bytes)
    → InnerCutBetween offsets bytes
ascii-cuts offsets bytes legal ascii i some more =
    let low = legal.order 0 i (omega arith) (omega arith) in
    let high = legal.order i (length offsets - 1) (omega arith) (omega arith) in
    elim (cases_lt (get_or offsets i 0) (last_of offsets)) [
      | inl inner ↦ inr (λ both.
          (let place : first_of offsets + (get_or offsets i 0 - first_of offsets) ≡ get_or offsets i 0 = omega arith in
          let byte = byte-window bytes (first_of offsets) (last_of offsets) (get_or offsets i 0 - first_of offsets)
          (omega arith) ∙ ap (λ k. get_or bytes k 0) place in
          omega (arith, byte, ascii (get_or offsets i 0 - first_of offsets), both.0)))
      | inr end ↦ inl (let e : get_or offsets i 0 ≡ last_of offsets = omega arith in e)
    ]

-- ---- the judge whose rule is Unicode's

pub cuts-texts : (offsets bytes : List ℕ) → IsOffsets offsets → PassesWhole IsWellFormed offsets bytes
    → CutTexts offsets bytes
cuts-texts offsets bytes legal passes =
    (passes.within, (slots-by-window offsets bytes legal passes.within).1 (passes.window, passes.inner))

pub passes-whole : (offsets bytes : List ℕ) → IsOffsets offsets → CutTexts offsets bytes
    → PassesWhole IsWellFormed offsets bytes
passes-whole offsets bytes legal cuts =
    let both = (slots-by-window offsets bytes legal cuts.0).0 cuts.1 in
    record { within = cuts.0; window = both.0; inner = both.1 }
