-- Lemmas about slots that agree.
use Rattle.std.proofs.Common.{◌≡◌, ℕ, zero, suc, ◌+◌, ◌<◌, ◌↔◌, Bool, true, false}
use Rattle.std.proofs.Common.{not, cond, if◌then◌else◌, List, [], ◌∷◌, length, map, drop, get_or, slice_get, Some}
use Rattle.std.proofs.Common.{None, Option, IfSome, is_some, unwrap_or, replicate, count_by, refl, sym, ap, ap₂, subst, ◌∙◌}
use Rattle.std.proofs.Common.{arith, zero-add}
use Rattle.std.proofs.lemmas.Bool.{true≢false}
use Rattle.std.proofs.lemmas.List.{length-map}
use Rattle.std.proofs.lemmas.List.Sums.{sum_by-cons}
use Rattle.std.proofs.lemmas.Slice.Zip.{seconds-zip}
use Rattle.arrow_types.proofs.CallerLemmas.{set-mark}
use Rattle.arrow_memory.specs.Rows.{FitsMask, Row, rows_of, slot}
use Rattle.arrow_memory.specs.Rows.{AgreeWhere, IsValidAt}
use Rattle.arrow_column.proofs.RowLemmas.{length-rows, marks-all, stored-rows}

-- no mark is clear, and all are set
pub set-by_count : (marks : List Bool) (n : ℕ) → length marks ≡ n
    → (count_by not marks ≡ 0) ↔ (marks ≡ replicate n true)
set-by_count [] zero long = (λ e. refl, λ e. refl)
set-by_count [] (suc n) long = absurd (omega (arith, long))
set-by_count (m ∷ marks) zero long = absurd (omega (arith, long))
set-by_count (true ∷ marks) (suc n) long =
    let same : count_by not (true ∷ marks) ≡ count_by not marks = sum_by-cons (λ m. cond (not m) 1 0) true marks
    ∙ zero-add (count_by not marks) in
    let rest = set-by_count marks n (omega (arith, long)) in
    (λ e. ap (λ ms. true ∷ ms) (rest.0 (sym same ∙ e)), λ e. same ∙ rest.1 (ap (drop 1) e))
set-by_count (false ∷ marks) (suc n) long =
    let more : count_by not (false ∷ marks) ≡ 1 + count_by not marks =
    sum_by-cons (λ m. cond (not m) 1 0) false marks in
    (λ e. absurd (omega (arith, e, more)), λ e. absurd (true≢false (sym (ap (λ ms. get_or ms 0 true) e))))

-- the marks without a mask are those of a mask without a clear mark
pub bare-by_count : (mask : Option (List Bool)) (n : ℕ) → IfSome mask (λ marks. length marks ≡ n)
    → (count_by not (unwrap_or mask []) ≡ 0) ↔ (replicate n true ≡ unwrap_or mask (replicate n true))
bare-by_count None n fits = (λ e. refl, λ e. refl)
bare-by_count (Some marks) n fits =
    let counted = set-by_count marks n fits in
    (λ e. sym (counted.0 e), λ e. counted.1 (sym e))

-- ---- slots

one-shown : {S : Type 0} (m n : Bool) (v w : S) → m ≡ n → (m ≡ true → v ≡ w)
    → (let s : Option S = if m then Some v else None in s) ≡ (if n then Some w else None)
one-shown true true v w e same = ap Some (same refl)
one-shown true false v w e same = cc
one-shown false true v w e same = cc
one-shown false false v w e same = refl

-- rows with the same marks, and the same values where they are set, show the same
pub same-shown : {S : Type 0} (rows others : List (Row S))
    → map (λ (row : Row S). row.1) rows ≡ map (λ (row : Row S). row.1) others
    → ((i : ℕ) → i < length rows → slice_get (map (λ (row : Row S). row.1) rows) i ≡ Some true
    → slice_get (map (λ (row : Row S). row.0) rows) i ≡ slice_get (map (λ (row : Row S). row.0) others) i)
    → map slot rows ≡ map slot others
same-shown [] [] marks values = refl
same-shown [] (o ∷ others) marks values = cc
same-shown (r ∷ rows) [] marks values = cc
same-shown (r ∷ rows) (o ∷ others) marks values =
    let mark : r.1 ≡ o.1 = cc in
    let rest : map (λ (row : Row _). row.1) rows ≡ map (λ (row : Row _). row.1) others = cc in
    ap₂ (λ x xs. x ∷ xs) (one-shown r.1 o.1 r.0 o.0 mark (λ set. let same : Some r.0 ≡ Some o.0 =
    values 0 (omega arith) (ap Some set) in cc))
    (same-shown rows others rest (λ i low set. values (suc i) (omega (arith, low)) set))

marks-shown : {S : Type 0} (rows : List (Row S)) → map is_some (map slot rows) ≡ map (λ (row : Row S). row.1) rows
marks-shown [] = refl
marks-shown (r ∷ rows) = ap₂ (λ x xs. x ∷ xs) (one r.1 r.0) (marks-shown rows)
  where
    one : {S : Type 0} (m : Bool) (v : S) → is_some (let s : Option S = if m then Some v else None in s) ≡ m
    one true v = refl
    one false v = refl

pub marks-by_shown : {S : Type 0} (rows others : List (Row S)) → map slot rows ≡ map slot others
    → map (λ (row : Row S). row.1) rows ≡ map (λ (row : Row S). row.1) others
marks-by_shown rows others same = sym (marks-shown rows) ∙ ap (map is_some) same ∙ marks-shown others

one-value : {S : Type 0} (m n : Bool) (v w : S) → (let s : Option S = if m then Some v else None in s) ≡ (if n
    then Some w else None) → m ≡ true → Some v ≡ Some w
one-value true true v w same e = same
one-value true false v w same e = absurd (true≢false (ap is_some same))
one-value false n v w same e = absurd (true≢false (sym e))

pub values-by_shown : {S : Type 0} (rows others : List (Row S)) → map slot rows ≡ map slot others → (i : ℕ)
    → slice_get (map (λ (row : Row S). row.1) rows) i ≡ Some true
    → slice_get (map (λ (row : Row S). row.0) rows) i ≡ slice_get (map (λ (row : Row S). row.0) others) i
values-by_shown [] others same i set = cc
values-by_shown (r ∷ rows) [] same i set = cc
values-by_shown (r ∷ rows) (o ∷ others) same zero set =
    let first : slot r ≡ slot o = cc in
    one-value r.1 o.1 r.0 o.0 first cc
values-by_shown (r ∷ rows) (o ∷ others) same (suc i) set =
    let rest : map slot rows ≡ map slot others = cc in
    values-by_shown rows others rest i set

-- a column's marks by its mask
pub mask-marks : {S : Type 0} (values : List S) (mask : Option (List Bool)) (n : ℕ) → FitsMask values mask
    → n ≡ length values → map (λ (row : Row S). row.1) (rows_of values mask) ≡ unwrap_or mask (replicate n true)
mask-marks values None n fits long = marks-all values ∙ ap (λ k. replicate k true) (sym long)
mask-marks values (Some marks) n fits long = seconds-zip values marks fits

-- a set mark is that of a valid slot
pub set-valid : {S : Type 0} (values : List S) (mask : Option (List Bool)) (i : ℕ) → FitsMask values mask
    → i < length values → (slice_get (map (λ (row : Row S). row.1) (rows_of values mask)) i ≡ Some true)
    ↔ IsValidAt mask i
set-valid values None i fits low = (
  λ e. tt,
  λ e. ap (λ ms. slice_get ms i) (marks-all values)
      ∙ set-mark (length values) i low,
)
set-valid values (Some marks) i fits low = (
  λ e. ap (λ ms. slice_get ms i) (sym (seconds-zip values marks fits)) ∙ e,
  λ e. ap (λ ms. slice_get ms i) (seconds-zip values marks fits) ∙ e,
)

-- two columns of as many slots
module _ {S : Type 0} (values others : List S) (mask otherMask : Option (List Bool)) (n : ℕ)
    (fits : FitsMask values mask) (otherFits : FitsMask others otherMask) (long : n ≡ length values)
    (same : length values ≡ length others) where
  -- columns of equal marks, and of equal values where these are set, have equal slots
  pub slots-agree : unwrap_or mask (replicate n true) ≡ unwrap_or otherMask (replicate n true)
      → AgreeWhere mask values others → map slot (rows_of values mask) ≡ map slot (rows_of others otherMask)
  slots-agree marks agree =
      same-shown (rows_of values mask) (rows_of others otherMask)
      (mask-marks values mask n fits long ∙ marks ∙ sym (mask-marks others otherMask n otherFits (long ∙ same)))
      (λ i low set.
      let inner : i < length values = subst (λ k. i < k) (length-rows values mask fits) low in
      ap (λ vs. slice_get vs i) (stored-rows values mask fits)
      ∙ agree i inner ((set-valid values mask i fits inner).0 set)
      ∙ ap (λ vs. slice_get vs i) (sym (stored-rows others otherMask otherFits)))

  pub marks-agree : map slot (rows_of values mask) ≡ map slot (rows_of others otherMask)
      → unwrap_or mask (replicate n true) ≡ unwrap_or otherMask (replicate n true)
  marks-agree slots = sym (mask-marks values mask n fits long)
      ∙ marks-by_shown (rows_of values mask) (rows_of others otherMask) slots
      ∙ mask-marks others otherMask n otherFits (long ∙ same)

  pub values-agree : map slot (rows_of values mask) ≡ map slot (rows_of others otherMask)
      → AgreeWhere mask values others
  values-agree slots = λ i low is.
      ap (λ vs. slice_get vs i) (sym (stored-rows values mask fits))
      ∙ values-by_shown (rows_of values mask) (rows_of others otherMask) slots i
      ((set-valid values mask i fits low).1 is)
      ∙ ap (λ vs. slice_get vs i) (stored-rows others otherMask otherFits)

-- as many slots are in lists of as many
pub slots-long : {S : Type 0} (values others : List S) (mask otherMask : Option (List Bool)) → FitsMask values mask
    → FitsMask others otherMask → map slot (rows_of values mask) ≡ map slot (rows_of others otherMask)
    → length values ≡ length others
slots-long values others mask otherMask fits otherFits slots =
    sym (length-map (rows_of values mask) slot ∙ length-rows values mask fits) ∙ ap length slots
    ∙ length-map (rows_of others otherMask) slot ∙ length-rows others otherMask otherFits
