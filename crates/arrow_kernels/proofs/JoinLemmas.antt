-- Lemmas about lists one after the other, and what arrays that are joined make of them.
use Rattle.std.proofs.Common.{◌≡◌, ℕ, ◌+◌, ◌<◌, ◌≤◌, Bool, true, false, ◌&&◌, IsTrue, List, [], ◌∷◌}
use Rattle.std.proofs.Common.{◌++◌, length, map, take, drop, get_or, replicate, Option, Some, None, MatchOption}
use Rattle.std.proofs.Common.{if◌then◌else◌, refl, sym, subst, ap, ap₂, ◌∙◌, arith, length-append, flat_map}
use Rattle.std.specs.List.{concat, list_all}
use Rattle.std.proofs.lemmas.List.{append-nil, take_more, take-append-drop}
use Rattle.std.proofs.lemmas.List.Concat.{flat_map-append}
use Rattle.std.proofs.lemmas.List.Folds.{concat-append, list_all-append}
use Rattle.arrow_types.specs.Types.{LogicalType}
use Rattle.arrow_types.proofs.CallerLemmas.{map-flat_map}
use Rattle.arrow_memory.specs.Rows.{FitsMask, Row}
use Rattle.arrow_column.specs.Masks.{mask_with_nulls}
use Rattle.arrow_column.specs.Column.{ColumnWith, IsColumn, column_with, mask_of, marks_of, stored_values}
use Rattle.arrow_bytes.specs.Selection.{Concatenates, concatenated}
use Rattle.compute_base.proofs.CallerLemmas.{set-marks}
use Rattle.arrow_kernels.proofs.ChoiceLemmas.{needed, needed-fits}

-- ---- lists one after the other

-- one more
pub joined-more : {X Y : Type 0} (f : X → List Y) (xs : List X) (i : ℕ) (x : X) → i < length xs → x ≡ get_or xs i x
    → flat_map f (take (i + 1) xs) ≡ flat_map f (take i xs) ++ f x
joined-more f xs i x low read =
    ap (flat_map f) (take_more xs i x low ∙ ap (λ y. take i xs ++ y ∷ []) (sym read))
    ∙ flat_map-append f (take i xs) (x ∷ [])
    ∙ ap (λ ys. flat_map f (take i xs) ++ ys) (append-nil (f x))

-- a list of what is made of the first i elements becomes that of i + 1 by appending what is made of the next
pub joined-grown : {X Y : Type 0} (f : X → List Y) (xs : List X) (i : ℕ) (x : X) (old new : List Y) → i < length xs
    → x ≡ get_or xs i x → old ≡ flat_map f (take i xs) → new ≡ old ++ f x → new ≡ flat_map f (take (i + 1) xs)
joined-grown f xs i x old new low read was pushed = pushed ∙ ap (λ ys. ys ++ f x) was
    ∙ sym (joined-more f xs i x low read)

-- the first of them have no more bytes than all
pub joined-length : {X : Type 0} (f : X → List (List ℕ)) (n : ℕ) (xs : List X)
    → length (concat (flat_map f (take n xs))) ≤ length (concat (flat_map f xs))
joined-length f n xs =
    let front = flat_map f (take n xs) in
    let back = flat_map f (drop n xs) in
    let whole : flat_map f xs ≡ front ++ back =
    ap (flat_map f) (sym (take-append-drop n xs)) ∙ flat_map-append f (take n xs) (drop n xs) in
    let long : length (concat (flat_map f xs)) ≡ length (concat front) + length (concat back) =
    ap (λ ys. length (concat ys)) whole ∙ ap length (concat-append front back)
    ∙ length-append (concat front) (concat back) in
    omega (arith, long)

-- as many bytes more
pub length-more : {X : Type 0} (f : X → List (List ℕ)) (xs : List X) (i : ℕ) (x : X) → i < length xs
    → x ≡ get_or xs i x
    → length (concat (flat_map f (take (i + 1) xs))) ≡ length (concat (flat_map f (take i xs))) + length (concat (f x))
length-more f xs i x low read =
    ap (λ ys. length (concat ys)) (joined-more f xs i x low read)
    ∙ ap length (concat-append (flat_map f (take i xs)) (f x))
    ∙ length-append (concat (flat_map f (take i xs))) (concat (f x))

-- ---- marks

-- marks behind marks that are all set
pub all-more : (xs ys new : List Bool) → list_all (λ mark. mark) xs ≡ true → new ≡ xs ++ ys
    → list_all (λ mark. mark) new ≡ list_all (λ mark. mark) ys
all-more xs ys new all is = ap (list_all (λ mark. mark)) is ∙ list_all-append (λ mark. mark) xs ys
    ∙ ap (λ b. b && list_all (λ mark. mark) ys) all

-- one of the first lists has a clear mark, so one of all has
pub none-all : {X : Type 0} (f : X → List Bool) (n : ℕ) (xs : List X)
    → list_all (λ mark. mark) (flat_map f (take n xs)) ≡ false → list_all (λ mark. mark) (flat_map f xs) ≡ false
none-all f n xs clear =
    ap (λ ys. list_all (λ mark. mark) (flat_map f ys)) (sym (take-append-drop n xs))
    ∙ ap (list_all (λ mark. mark)) (flat_map-append f (take n xs) (drop n xs))
    ∙ list_all-append (λ mark. mark) (flat_map f (take n xs)) (flat_map f (drop n xs))
    ∙ ap (λ b. b && list_all (λ mark. mark) (flat_map f (drop n xs))) clear

-- the marks that a column's mask has, or else as many set marks as there are slots
pub pushed-marks : {A S : Type 0} (column : ColumnWith A S) (mask : Option (List Bool)) (n : ℕ) (old new : List Bool)
    → IsColumn column → mask ≡ mask_of column → n ≡ length column.rows
    → MatchOption mask (new ≡ old ++ replicate n true) (λ marks. new ≡ old ++ marks) → new ≡ old ++ marks_of column
pushed-marks {A} {S} column mask n old new is_column same count pushed = by_held column.held column.rows is_column
    (subst
    (λ m. MatchOption m (new ≡ old ++ replicate n true) (λ marks. new ≡ old ++ marks)) same pushed) count
  where
    by_held : (held : Bool) (rows : List (Row S)) → (held ≡ false → IsTrue (list_all (λ row. row.1) rows))
        → MatchOption (if held then Some (map (λ (row : Row S). row.1) rows) else None) (new ≡ old ++ replicate n true)
        (λ marks. new ≡ old ++ marks) → n ≡ length rows → new ≡ old ++ map (λ (row : Row S). row.1) rows
    by_held true rows h is long = is
    by_held false rows h is long = is ∙ ap (λ k. old ++ replicate k true) long
        ∙ ap (λ marks. old ++ marks) (sym (set-marks rows (h refl)))

-- ---- columns of rows one after the other

pub fits-joined : {A S : Type 0} (columns : List (ColumnWith A S)) (values : List S) (mask : Option (List Bool))
    → values ≡ flat_map stored_values columns → mask ≡ mask_with_nulls (Some (flat_map marks_of columns))
    → FitsMask values mask
fits-joined {A} {S} columns values mask e m =
    let P : List S → Option (List Bool) → Type 0 = λ vs o. FitsMask vs o in
    subst (λ vs. P vs mask) (sym (e ∙ sym (map-flat_map (λ row. row.0) (λ column. column.rows) columns)))
    (subst (P (map (λ row. row.0) (flat_map (λ column. column.rows) columns)))
    (sym (m ∙ ap (λ marks. mask_with_nulls (Some marks)) (sym (map-flat_map (λ row. row.1) (λ column.
    column.rows) columns)))) (needed-fits true (flat_map (λ column. column.rows) columns)))

pub makes-joined : {A S : Type 0} (nothing : A) (first : ColumnWith A S) (columns : List (ColumnWith A S))
    (t : LogicalType) (values : List S) (mask : Option (List Bool)) → t ≡ first.data_type
    → values ≡ flat_map stored_values columns → mask ≡ mask_with_nulls (Some (flat_map marks_of columns))
    → column_with t nothing values mask ≡ concatenated nothing first columns
makes-joined nothing first columns t values mask same e m =
    ap (λ u. column_with u nothing values mask) same
    ∙ ap₂ (column_with first.data_type nothing) (e ∙ sym (map-flat_map (λ row. row.0) (λ column. column.rows) columns))
    (m ∙ ap (λ marks. mask_with_nulls (Some marks)) (sym (map-flat_map (λ row. row.1) (λ column.
    column.rows) columns)))
    ∙ needed first.data_type nothing true (flat_map (λ column. column.rows) columns) (λ f. cc)

-- the concatenation under the first column's type, if there is one, is that of the columns
pub concatenates : {A S : Type 0} (nothing : A) (columns : List (ColumnWith A S)) (first made : ColumnWith A S)
    → 0 < length columns → first ≡ get_or columns 0 first → made ≡ concatenated nothing first columns
    → Concatenates nothing columns made
concatenates nothing [] first made some read is = absurd (omega (arith, some))
concatenates nothing (column ∷ columns) first made some read is = is
    ∙ ap (λ c. concatenated nothing c (column ∷ columns)) read

-- what a concatenation of columns is made of
module _ {A S : Type 0} (nothing : A) where
  pub made-rows : (columns : List (ColumnWith A S)) (made : ColumnWith A S) → Concatenates nothing columns made
      → made.rows ≡ flat_map (λ column. column.rows) columns
  made-rows [] made is = absurd is
  made-rows (first ∷ others) made is = ap (λ (column : ColumnWith A S). column.rows) is

  pub made-type : (first : ColumnWith A S) (others : List (ColumnWith A S)) (made : ColumnWith A S)
      → Concatenates nothing (first ∷ others) made → made.data_type ≡ first.data_type
  made-type first others made is = ap (λ (column : ColumnWith A S). column.data_type) is
