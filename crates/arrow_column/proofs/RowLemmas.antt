-- Lemmas about the rows that stored values and a mask make.
use Rattle.std.proofs.Common.{length-append, ◌≡◌, ℕ, zero, suc, ◌+◌, ◌-◌, ◌<◌, Bool, true, false, not, ◌&&◌, ◌||◌}
use Rattle.std.proofs.Common.{length-take, length-drop, IsTrue, if◌then◌else◌, List, [], ◌∷◌, ◌++◌, length}
use Rattle.std.proofs.Common.{map, take, drop, min, replicate, count_by, slice_get, slice_set, Option, Some, None}
use Rattle.std.proofs.Common.{MatchOption, option_map, option_and_then, IfSome, unwrap_or, is_some, refl, sym, ap, ap₂, ◌∙◌}
use Rattle.std.proofs.Common.{arith}
use Rattle.std.specs.List.{zip, list_all}
use Rattle.std.proofs.lemmas.Bool.{true≢false}
use Rattle.std.proofs.Math.Bool.{or-false, or-true}
use Rattle.std.proofs.Math.Nat.{suc_inj}
use Rattle.std.proofs.lemmas.List.{length-map, length-replicate, map-append, length_push, take_at}
use Rattle.std.proofs.lemmas.Slice.Zip.{firsts-zip, length-zip, seconds-zip}
use Rattle.arrow_types.specs.Types.{LogicalType}
use Rattle.arrow_types.proofs.CallerLemmas.{is_some-option_map, no-clear, set-mark, zip-drop, zip-take}
use Rattle.arrow_memory.specs.Rows.{Row, FitsMask, slot, rows_of}
use Rattle.arrow_column.specs.Column.{ColumnWith, column_with, cut_with, append_nulls, append_values, with_slot}
use Rattle.arrow_column.specs.Column.{with_stored, joined, stored_values, without_last}
use Rattle.arrow_column.specs.Masks.{joined_mask, mask_with_nulls}
use Rattle.arrow_memory.specs.MarkWrites.{TakesLastMark}

pub length-rows : {S : Type 0} (values : List S) (mask : Option (List Bool)) → FitsMask values mask
    → length (rows_of values mask) ≡ length values
length-rows values None fits = length-map values _
length-rows values (Some marks) fits = length-zip values marks ∙ let e : min (length values) (length marks)
    ≡ length values = omega (arith, fits) in e

stored-all : {S : Type 0} (values : List S) → map (λ (row : Row S). row.0) (map (λ value. (value, true)) values)
    ≡ values
stored-all [] = refl
stored-all (v ∷ values) = ap (λ rest. v ∷ rest) (stored-all values)

-- the stored values of the rows
pub stored-rows : {S : Type 0} (values : List S) (mask : Option (List Bool)) → FitsMask values mask
    → map (λ (row : Row S). row.0) (rows_of values mask) ≡ values
stored-rows values None fits = stored-all values
stored-rows values (Some marks) fits = firsts-zip values marks fits

pub marks-all : {S : Type 0} (values : List S) → map (λ (row : Row S). row.1) (map (λ value. (value, true)) values)
    ≡ replicate (length values) true
marks-all [] = refl
marks-all (v ∷ values) = ap (λ rest. true ∷ rest) (marks-all values)

pub all-bare : {S : Type 0} (values : List S) → IsTrue (list_all (λ (row : Row S). row.1) (rows_of values None))
all-bare [] = refl
all-bare (v ∷ values) = all-bare values

-- the mask of the rows
pub mask-rows : {S : Type 0} (values : List S) (mask : Option (List Bool)) → FitsMask values mask
    → mask ≡ (if is_some mask then Some (map (λ (row : Row S). row.1) (rows_of values mask)) else None)
mask-rows values None fits = refl
mask-rows values (Some marks) fits = ap Some (sym (seconds-zip values marks fits))

-- without a mask every slot is valid
pub valid-rows : {S : Type 0} (values : List S) (mask : Option (List Bool)) → is_some mask ≡ false
    → IsTrue (list_all (λ (row : Row S). row.1) (rows_of values mask))
valid-rows values None none = all-bare values
valid-rows values (Some marks) none = cc

-- a mark of the rows is that of the mask, or set without one
pub mark-at : {S : Type 0} (values : List S) (mask : Option (List Bool)) (i : ℕ) (mark : Bool) → FitsMask values mask
    → i < length values → MatchOption mask (mark ≡ true) (λ marks. slice_get marks i ≡ Some mark)
    → slice_get (map (λ (row : Row S). row.1) (rows_of values mask)) i ≡ Some mark
mark-at values None i mark fits low set = ap (λ ms. slice_get ms i) (marks-all values)
    ∙ set-mark (length values) i low ∙ ap Some (sym set)
mark-at values (Some marks) i mark fits low found = ap (λ ms. slice_get ms i) (seconds-zip values marks fits) ∙ found

-- the clear marks of the rows are those of the mask
pub clear-rows : {S : Type 0} (values : List S) (mask : Option (List Bool)) → FitsMask values mask
    → count_by not (unwrap_or mask []) ≡ count_by not (map (λ (row : Row S). row.1) (rows_of values mask))
clear-rows values None fits = no-clear (length values) ∙ ap (count_by not) (sym (marks-all values))
clear-rows values (Some marks) fits = ap (count_by not) (sym (seconds-zip values marks fits))

-- a piece of the rows
take-all : {S : Type 0} (n : ℕ) (values : List S) → rows_of (take n values) None ≡ take n (rows_of values None)
take-all zero values = refl
take-all (suc n) [] = refl
take-all (suc n) (v ∷ values) = ap (λ rest. (v, true) ∷ rest) (take-all n values)

drop-all : {S : Type 0} (n : ℕ) (values : List S) → rows_of (drop n values) None ≡ drop n (rows_of values None)
drop-all zero values = refl
drop-all (suc n) [] = refl
drop-all (suc n) (v ∷ values) = drop-all n values

pub cut-rows : {S : Type 0} (a n : ℕ) (values : List S) (mask : Option (List Bool))
    → rows_of (take n (drop a values)) (option_map (λ marks. take n (drop a marks)) mask)
    ≡ take n (drop a (rows_of values mask))
cut-rows a n values None = take-all n (drop a values) ∙ ap (take n) (drop-all a values)
cut-rows a n values (Some marks) = zip-take n (drop a values) (drop a marks) ∙ ap (take n) (zip-drop a values marks)

-- the first rows
pub first-rows : {S : Type 0} (n : ℕ) (values : List S) (mask : Option (List Bool))
    → rows_of (take n values) (option_map (λ marks. take n marks) mask) ≡ take n (rows_of values mask)
first-rows n values None = take-all n values
first-rows n values (Some marks) = zip-take n values marks

pub first-fits : {S : Type 0} (n : ℕ) (values : List S) (mask : Option (List Bool)) → FitsMask values mask
    → FitsMask (take n values) (option_map (λ marks. take n marks) mask)
first-fits n values None fits = fits
first-fits n values (Some marks) fits = simp length-take (ap (min n) fits)

-- one more row
push-all : {S : Type 0} (values : List S) (v : S) → rows_of (values ++ v ∷ []) None ≡ rows_of values None
    ++ (v, true) ∷ []
push-all [] v = refl
push-all (w ∷ values) v = ap (λ rest. (w, true) ∷ rest) (push-all values v)

zip-append : {S : Type 0} (values more : List S) (marks others : List Bool) → length marks ≡ length values
    → zip (values ++ more) (marks ++ others) ≡ zip values marks ++ zip more others
zip-append [] more [] others e = refl
zip-append [] more (m ∷ marks) others e = cc
zip-append (v ∷ values) more [] others e = cc
zip-append (v ∷ values) more (m ∷ marks) others e =
    ap (λ rest. (v, m) ∷ rest) (zip-append values more marks others (suc_inj e))

pub push_valid-rows : {S : Type 0} (values : List S) (mask : Option (List Bool)) (v : S) → FitsMask values mask
    → rows_of (values ++ v ∷ []) (option_map (λ marks. marks ++ true ∷ []) mask) ≡ rows_of values mask ++ (v, true) ∷ []
push_valid-rows values None v fits = push-all values v
push_valid-rows values (Some marks) v fits = zip-append values (v ∷ []) marks (true ∷ []) fits

zip-replicate : {S : Type 0} (values : List S) → zip values (replicate (length values) true) ≡ rows_of values None
zip-replicate [] = refl
zip-replicate (v ∷ values) = ap (λ rest. (v, true) ∷ rest) (zip-replicate values)

pub push_null-rows : {S : Type 0} (values : List S) (mask : Option (List Bool)) (v : S) → FitsMask values mask
    → rows_of (values ++ v ∷ []) (Some (unwrap_or mask (replicate (length values) true) ++ false ∷ []))
    ≡ rows_of values mask ++ (v, false) ∷ []
push_null-rows values None v fits = zip-append values (v ∷ []) (replicate (length values) true) (false ∷ [])
    (length-replicate (length values) true) ∙ ap (λ front. front ++ (v, false) ∷ []) (zip-replicate values)
push_null-rows values (Some marks) v fits = zip-append values (v ∷ []) marks (false ∷ []) fits

-- as many marks as values, after one more of each
pub push_valid-fits : {S : Type 0} (values : List S) (mask : Option (List Bool)) (v : S) → FitsMask values mask
    → FitsMask (values ++ v ∷ []) (option_map (λ marks. marks ++ true ∷ []) mask)
push_valid-fits values None v fits = fits
push_valid-fits values (Some marks) v fits = length_push marks true ∙ ap (λ n. n + 1) fits ∙ sym (length_push values v)

pub push_null-fits : {S : Type 0} (values : List S) (mask : Option (List Bool)) (v : S) → FitsMask values mask
    → length (unwrap_or mask (replicate (length values) true) ++ false ∷ []) ≡ length (values ++ v ∷ [])
push_null-fits values None v fits = length_push (replicate (length values) true) false
    ∙ ap (λ n. n + 1) (length-replicate (length values) true) ∙ sym (length_push values v)
push_null-fits values (Some marks) v fits = length_push marks false ∙ ap (λ n. n + 1) fits ∙ sym (length_push values v)

-- a mask that is kept only with a null
pub frozen-rows : {S : Type 0} (values : List S) (mask : Option (List Bool)) → FitsMask values mask
    → rows_of values (mask_with_nulls mask) ≡ rows_of values mask
frozen-rows values None fits = refl
frozen-rows {S = S} values (Some marks) fits = by_all (list_all (λ mark. mark) marks) refl
  where
    all-set : (values : List S) (marks : List Bool) → length marks ≡ length values
        → list_all (λ mark. mark) marks ≡ true → rows_of values None ≡ zip values marks
    all-set [] marks e all = refl
    all-set (v ∷ values) [] e all = cc
    all-set (v ∷ values) (true ∷ marks) e all = ap (λ rest. (v, true) ∷ rest) (all-set values marks (suc_inj e) all)
    all-set (v ∷ values) (false ∷ marks) e all = cc

    by_all : (b : Bool) → list_all (λ mark. mark) marks ≡ b
        → rows_of values (if b then None else Some marks) ≡ zip values marks
    by_all true e = all-set values marks fits e
    by_all false e = refl

valid-zip : {S : Type 0} (values : List S) (marks : List Bool) → length marks ≡ length values
    → list_all (λ (row : Row S). row.1) (zip values marks) ≡ list_all (λ mark. mark) marks
valid-zip [] [] e = refl
valid-zip [] (m ∷ marks) e = cc
valid-zip (v ∷ values) [] e = refl
valid-zip (v ∷ values) (m ∷ marks) e = ap (λ rest. m && rest) (valid-zip values marks (suc_inj e))

pub frozen-held : {S : Type 0} (values : List S) (mask : Option (List Bool)) → FitsMask values mask
    → is_some (mask_with_nulls mask) ≡ not (list_all (λ (row : Row S). row.1) (rows_of values mask))
frozen-held values None fits = ap not (sym (all-bare values))
frozen-held values (Some marks) fits = by_all (list_all (λ mark. mark) marks)
    ∙ ap not (sym (valid-zip values marks fits))
  where
    by_all : (b : Bool) → is_some (if b then None else Some marks) ≡ not b
    by_all true = refl
    by_all false = refl

-- the last row, and the others
pub last-push : {X : Type 0} (xs : List X) (x : X) → slice_get (xs ++ x ∷ []) (length (xs ++ x ∷ []) - 1) ≡ Some x
last-push {X = X} xs x = ap (slice_get (xs ++ x ∷ [])) (let e : length (xs ++ x ∷ []) - 1 ≡ length xs =
    omega (arith, length_push xs x) in e) ∙ at_end xs
  where
    at_end : (ys : List X) → slice_get (ys ++ x ∷ []) (length ys) ≡ Some x
    at_end [] = refl
    at_end (y ∷ ys) = at_end ys

pub rest-push : {X : Type 0} (xs : List X) (x : X) → take (length (xs ++ x ∷ []) - 1) (xs ++ x ∷ []) ≡ xs
rest-push xs x = take_at xs (x ∷ []) (length (xs ++ x ∷ []) - 1) (let e : length xs ≡ length (xs ++ x ∷ []) - 1 =
    omega (arith, length_push xs x) in e)

-- the slot at a place
pub slot-at : {S : Type 0} (rows : List (Row S)) (i : ℕ) (v : S) (m : Bool)
    → slice_get (map (λ (row : Row S). row.0) rows) i ≡ Some v
    → slice_get (map (λ (row : Row S). row.1) rows) i ≡ Some m
    → slice_get (map slot rows) i ≡ Some (if m then Some v else None)
slot-at [] i v m e f = cc
slot-at (row ∷ rows) zero v m e f =
    let value : row.0 ≡ v = cc in
    let mark : row.1 ≡ m = cc in
    ap Some (ap₂ (λ b x. if b then Some x else None) mark value)
slot-at (row ∷ rows) (suc i) v m e f = slot-at rows i v m e f

pub null-at : {S : Type 0} (rows : List (Row S)) (i : ℕ) → i < length rows
    → slice_get (map (λ (row : Row S). row.1) rows) i ≡ Some false → slice_get (map slot rows) i ≡ Some None
null-at [] i within f = cc
null-at (row ∷ rows) zero within f =
    let mark : row.1 ≡ false = cc in
    ap Some (ap (λ b. if b then Some row.0 else None) mark)
null-at (row ∷ rows) (suc i) within f = null-at rows i (omega arith) f

-- ---- columns of stored values and a mask

-- columns with the same parts are the same
pub same-column : {A S : Type 0} (t : LogicalType) (a b : A) (rows others : List (Row S)) (held holds : Bool)
    → a ≡ b → rows ≡ others → held ≡ holds
    → (let left : ColumnWith A S = record { data_type = t; around = a; rows = rows; held = held } in left)
    ≡ record { data_type = t; around = b; rows = others; held = holds }
same-column t a b rows others held holds e f h =
    ap (λ x. record { data_type = t; around = x; rows = rows; held = held }) e
    ∙ ap₂ (λ xs m. record { data_type = t; around = b; rows = xs; held = m }) f h

pub cut-column : {A S : Type 0} (around : A → List S → ℕ → ℕ → A) (t : LogicalType) (o p : A) (values ws : List S)
    (mask ns : Option (List Bool)) (a n : ℕ) → FitsMask values mask
    → ws ≡ take n (drop a values) → ns ≡ option_map (λ marks. take n (drop a marks)) mask → p ≡ around o values a n
    → column_with t p ws ns ≡ cut_with around (column_with t o values mask) a n
cut-column around t o p values ws mask ns a n fits e f g =
    same-column t p (around o (map (λ row. row.0) (rows_of values mask)) a n) (rows_of ws ns)
    (take n (drop a (rows_of values mask))) (is_some ns) (is_some mask)
    (g ∙ ap (λ xs. around o xs a n) (sym (stored-rows values mask fits)))
    (ap₂ rows_of e f ∙ cut-rows a n values mask)
    (ap is_some f ∙ is_some-option_map (λ marks. take n (drop a marks)) mask)

-- a column without its last row
pub shorter-column : {A S : Type 0} (t : LogicalType) (o p : A) (values ws : List S) (mask ns : Option (List Bool))
    (n : ℕ) → FitsMask values mask → n ≡ length values - 1
    → ws ≡ take n values → ns ≡ option_map (λ marks. take n marks) mask → p ≡ o
    → column_with t p ws ns ≡ without_last (column_with t o values mask)
shorter-column t o p values ws mask ns n fits last e f g =
    let same : n ≡ length (rows_of values mask) - 1 = omega (arith, last, length-rows values mask fits) in
    same-column t p o (rows_of ws ns) (take (length (rows_of values mask) - 1) (rows_of values mask)) (is_some ns)
    (is_some mask) g
    (ap₂ rows_of e f ∙ first-rows n values mask ∙ ap (λ k. take k (rows_of values mask)) same)
    (ap is_some f ∙ is_some-option_map (λ marks. take n marks) mask)

-- the last mark was taken from the mask: the other marks, and that mark
taken-mask : (mask ns : Option (List Bool)) (m : Bool) (n : ℕ) → IfSome mask (λ marks. length marks ≡ n)
    → TakesLastMark mask ns m → ns ≡ option_map (λ marks. take (n - 1) marks) mask
taken-mask None ns m n fits takes = takes.0
taken-mask (Some marks) None m n fits takes = absurd takes
taken-mask (Some marks) (Some rest) m n fits takes =
    ap Some (sym (rest-push rest m) ∙ ap (λ ms. take (length ms - 1) ms) (sym takes)
    ∙ ap (λ k. take (k - 1) marks) fits)

-- and a column without its last row, by that mask
pub popped-column : {A S : Type 0} (t : LogicalType) (o p : A) (values ws : List S) (mask ns : Option (List Bool))
    (m : Bool) → FitsMask values mask
    → ws ≡ take (length values - 1) values → TakesLastMark mask ns m → p ≡ o
    → column_with t p ws ns ≡ without_last (column_with t o values mask)
popped-column t o p values ws mask ns m fits e takes g =
    shorter-column t o p values ws mask ns (length values - 1) fits refl e (taken-mask mask ns m (length values)
    fits takes) g

-- the mark that was taken is that of the last row
pub popped-mark : {S : Type 0} (values : List S) (mask ns : Option (List Bool)) (m : Bool) → FitsMask values mask
    → 0 < length values → TakesLastMark mask ns m
    → slice_get (map (λ (row : Row S). row.1) (rows_of values mask)) (length (rows_of values mask) - 1) ≡ Some m
popped-mark values None ns m fits some takes =
    let last : length (rows_of values None) - 1 < length values = omega (arith, some, length-rows values None tt) in
    ap (λ ms. slice_get ms (length (rows_of values None) - 1)) (marks-all values)
    ∙ set-mark (length values) (length (rows_of values None) - 1) last ∙ ap Some (sym takes.1)
popped-mark values (Some marks) None m fits some takes = absurd takes
popped-mark values (Some marks) (Some rest) m fits some takes =
    let long : length (zip values marks) ≡ length marks = length-rows values (Some marks) fits ∙ sym fits in
    ap₂ (λ ms k. slice_get ms (k - 1)) (seconds-zip values marks fits) long
    ∙ ap (λ ms. slice_get ms (length ms - 1)) takes ∙ last-push rest m

-- what a row shows
pub shown-null : {S : Type 0} (rows : List (Row S)) (i : ℕ)
    → slice_get (map (λ (row : Row S). row.1) rows) i ≡ Some false → option_and_then slot (slice_get rows i) ≡ None
shown-null [] i e = refl
shown-null (row ∷ rows) zero e =
    let mark : row.1 ≡ false = cc in
    ap (λ b. if b then Some row.0 else None) mark
shown-null (row ∷ rows) (suc i) e = shown-null rows i e

pub shown-valid : {S : Type 0} (rows : List (Row S)) (i : ℕ) (v : S)
    → slice_get (map (λ (row : Row S). row.1) rows) i ≡ Some true
    → slice_get (map (λ (row : Row S). row.0) rows) i ≡ Some v → option_and_then slot (slice_get rows i) ≡ Some v
shown-valid [] i v e f = cc
shown-valid (row ∷ rows) zero v e f =
    let mark : row.1 ≡ true = cc in
    let value : row.0 ≡ v = cc in
    ap₂ (λ b x. if b then Some x else None) mark value
shown-valid (row ∷ rows) (suc i) v e f = shown-valid rows i v e f

-- a growth that is taken back
pub grown-back : {S : Type 0} (values grown back more : List S) (n : ℕ) → n ≡ length values → grown ≡ values ++ more
    → back ≡ take n grown → back ≡ values
grown-back values grown back more n e f g = g ∙ ap (take n) f ∙ take_at values more n (sym e)

pub undone-column : {A S : Type 0} (t : LogicalType) (o p : A) (values back : List S) (mask ns : Option (List Bool))
    (column : ColumnWith A S)
    → back ≡ values → ns ≡ mask → p ≡ o → column_with t o values mask ≡ column → column_with t p back ns ≡ column
undone-column t o p values back mask ns column e f g h = ap (λ a. column_with t a back ns) g
    ∙ ap₂ (column_with t o) e f ∙ h

pub stored-column : {A S : Type 0} (t : LogicalType) (o : A) (values : List S) (mask : Option (List Bool))
    (column : ColumnWith A S) → FitsMask values mask → column_with t o values mask ≡ column
    → stored_values column ≡ values
stored-column t o values mask column fits e = ap stored_values (sym e) ∙ stored-rows values mask fits

-- ---- many rows more

many-all : {S : Type 0} (values more : List S)
    → rows_of (values ++ more) None ≡ rows_of values None ++ rows_of more None
many-all values more = map-append (λ value. (value, true)) values more

zip-clear : {S : Type 0} (values : List S) → zip values (replicate (length values) false) ≡ map (λ v. (v, false)) values
zip-clear [] = refl
zip-clear (v ∷ values) = ap (λ rest. (v, false) ∷ rest) (zip-clear values)

pub join-rows : {S : Type 0} (values more : List S) (mask other : Option (List Bool)) → FitsMask values mask
    → rows_of (values ++ more) (joined_mask mask (length values) other (length more)) ≡ rows_of values mask
    ++ rows_of more other
join-rows values more None None fits = many-all values more
join-rows values more (Some marks) None fits = zip-append values more marks (replicate (length more) true) fits
    ∙ ap (λ rest. zip values marks ++ rest) (zip-replicate more)
join-rows values more None (Some others) fits = zip-append values more (replicate (length values) true) others
    (length-replicate (length values) true) ∙ ap (λ front. front ++ zip more others) (zip-replicate values)
join-rows values more (Some marks) (Some others) fits = zip-append values more marks others fits

pub join-held : {S : Type 0} (values more : List S) (mask other : Option (List Bool))
    → is_some (joined_mask mask (length values) other (length more)) ≡ (is_some mask || is_some other)
join-held values more None None = refl
join-held values more (Some marks) None = refl
join-held values more None (Some others) = refl
join-held values more (Some marks) (Some others) = refl

pub grown-column : {A S : Type 0} (t : LogicalType) (o p : A) (values ws more : List S)
    (mask ns : Option (List Bool)) (m n : ℕ) → FitsMask values mask → ws ≡ values ++ more → m ≡ length values
    → n ≡ length more → ns ≡ joined_mask mask m None n → p ≡ o
    → column_with t p ws ns ≡ append_values (column_with t o values mask) more
grown-column t o p values ws more mask ns m n fits e d f g h =
    let same : ns ≡ joined_mask mask (length values) None (length more) = g
    ∙ ap₂ (λ j k. joined_mask mask j None k) d f in
    same-column t p o (rows_of ws ns) (rows_of values mask ++ rows_of more None) (is_some ns) (is_some mask) h
    (ap₂ rows_of e same ∙ join-rows values more mask None fits)
    (ap is_some same ∙ join-held values more mask None ∙ or-false (is_some mask))

pub nulled-column : {A S : Type 0} (t : LogicalType) (o p : A) (values ws more : List S)
    (mask ns : Option (List Bool)) (m n : ℕ) → FitsMask values mask → ws ≡ values ++ more → m ≡ length values
    → n ≡ length more → ns ≡ joined_mask mask m (Some (replicate n false)) n → p ≡ o
    → column_with t p ws ns ≡ append_nulls (column_with t o values mask) more
nulled-column t o p values ws more mask ns m n fits e d f g h =
    let clear = Some (replicate (length more) false) in
    let same : ns ≡ joined_mask mask (length values) clear (length more) = g
    ∙ ap₂ (λ j k. joined_mask mask j (Some (replicate k false)) k) d f in
    same-column t p o (rows_of ws ns) (rows_of values mask ++ map (λ v. (v, false)) more) (is_some ns) true h
    (ap₂ rows_of e same ∙ join-rows values more mask clear fits
    ∙ ap (λ back. rows_of values mask ++ back) (zip-clear more))
    (ap is_some same ∙ join-held values more mask clear ∙ or-true (is_some mask))

pub joined-column : {A B S : Type 0} (t u : LogicalType) (o p : A) (q : B) (values ws more : List S)
    (mask ns other : Option (List Bool)) (m n : ℕ) → FitsMask values mask → ws ≡ values ++ more → m ≡ length values
    → n ≡ length more
    → ns ≡ joined_mask mask m other n → p ≡ o
    → column_with t p ws ns ≡ joined (column_with t o values mask) (column_with u q more other)
joined-column t u o p q values ws more mask ns other m n fits e d f g h =
    let same : ns ≡ joined_mask mask (length values) other (length more) = g
    ∙ ap₂ (λ j k. joined_mask mask j other k) d f in
    same-column t p o (rows_of ws ns) (rows_of values mask ++ rows_of more other) (is_some ns)
    (is_some mask || is_some other) h
    (ap₂ rows_of e same ∙ join-rows values more mask other fits)
    (ap is_some same ∙ join-held values more mask other)

-- what is tested of the parts holds of the column
pub same-test : {A S : Type 0} (test : A → List S → Bool) (t : LogicalType) (o : A) (values : List S)
    (mask : Option (List Bool)) (column : ColumnWith A S) (b : Bool) → FitsMask values mask
    → column_with t o values mask ≡ column
    → test o values ≡ b → test column.around (stored_values column) ≡ b
same-test test t o values mask column b fits e f =
    ap₂ test (ap (λ whole. whole.around) (sym e)) (stored-column t o values mask column fits e) ∙ f

-- ---- other stored values, and another slot

pub rewritten-length : {S : Type 0} (n : ℕ) (values ws : List S) → n ≡ length values
    → length (take n (ws ++ drop (length ws) values)) ≡ length values
rewritten-length n values ws e = simp (length-take, length-append, length-drop) (omega (arith, e))

zip-marks : {S : Type 0} (values ws : List S) (mask : Option (List Bool)) → FitsMask values mask
    → length ws ≡ length values → rows_of ws mask ≡ zip ws (map (λ (row : Row S). row.1) (rows_of values mask))
zip-marks values ws None fits long = sym (zip-replicate ws) ∙ ap (zip ws) (ap (λ n. replicate n true) long
    ∙ sym (marks-all values))
zip-marks values ws (Some marks) fits long = ap (zip ws) (sym (seconds-zip values marks fits))

pub replaced-column : {A S : Type 0} (t : LogicalType) (o p : A) (values ws : List S) (mask : Option (List Bool))
    (column : ColumnWith A S) → FitsMask values mask → column_with t o values mask ≡ column
    → p ≡ column.around → length ws ≡ length column.rows → column_with t p ws mask ≡ with_stored column ws
replaced-column t o p values ws mask column fits e f long =
    let same : length ws ≡ length values = long ∙ ap (λ whole. length whole.rows) (sym e)
    ∙ length-rows values mask fits in
    ap₂ (λ a rows. record { data_type = t; around = a; rows = rows; held = is_some mask }) (f
    ∙ ap (λ whole. whole.around) (sym e)) (zip-marks values ws mask fits same)
    ∙ ap (λ whole. with_stored whole ws) e

set-all : {S : Type 0} (values : List S) (i : ℕ) (v : S)
    → rows_of (slice_set values i v) None ≡ slice_set (rows_of values None) i (v, true)
set-all [] i v = refl
set-all (x ∷ values) zero v = refl
set-all (x ∷ values) (suc i) v = ap (λ rest. (x, true) ∷ rest) (set-all values i v)

set-zip : {S : Type 0} (values : List S) (marks : List Bool) (i : ℕ) (v : S) (m : Bool)
    → zip (slice_set values i v) (slice_set marks i m) ≡ slice_set (zip values marks) i (v, m)
set-zip [] marks i v m = refl
set-zip (x ∷ values) [] zero v m = refl
set-zip (x ∷ values) [] (suc i) v m = refl
set-zip (x ∷ values) (k ∷ marks) zero v m = refl
set-zip (x ∷ values) (k ∷ marks) (suc i) v m = ap (λ rest. (x, k) ∷ rest) (set-zip values marks i v m)

set-valid-rows : {S : Type 0} (values : List S) (mask : Option (List Bool)) (i : ℕ) (v : S)
    → rows_of (slice_set values i v) (option_map (λ marks. slice_set marks i true) mask)
    ≡ slice_set (rows_of values mask) i (v, true)
set-valid-rows values None i v = set-all values i v
set-valid-rows values (Some marks) i v = set-zip values marks i v true

set-null-rows : {S : Type 0} (values : List S) (mask : Option (List Bool)) (n i : ℕ) (v : S) → n ≡ length values
    → rows_of (slice_set values i v) (Some (slice_set (unwrap_or mask (replicate n true)) i false))
    ≡ slice_set (rows_of values mask) i (v, false)
set-null-rows values None n i v e = set-zip values (replicate n true) i v false
    ∙ ap (λ rows. slice_set rows i (v, false)) (ap (λ k. zip values (replicate k true)) e ∙ zip-replicate values)
set-null-rows values (Some marks) n i v e = set-zip values marks i v false

pub valid-set : {A S : Type 0} (d : S) (t : LogicalType) (o p : A) (values ws : List S)
    (mask ns : Option (List Bool)) (i : ℕ) (v : S)
    → ws ≡ slice_set values i v → ns ≡ option_map (λ marks. slice_set marks i true) mask → p ≡ o
    → column_with t p ws ns ≡ with_slot d (column_with t o values mask) i (Some v)
valid-set d t o p values ws mask ns i v e f h =
    same-column t p o (rows_of ws ns) (slice_set (rows_of values mask) i (v, true)) (is_some ns) (is_some mask) h
    (ap₂ rows_of e f ∙ set-valid-rows values mask i v)
    (ap is_some f ∙ is_some-option_map (λ marks. slice_set marks i true) mask)

pub null-set : {A S : Type 0} (d : S) (t : LogicalType) (o p : A) (values ws : List S)
    (mask ns : Option (List Bool)) (n i : ℕ) → n ≡ length values
    → ws ≡ slice_set values i d → ns ≡ Some (slice_set (unwrap_or mask (replicate n true)) i false) → p ≡ o
    → column_with t p ws ns ≡ with_slot d (column_with t o values mask) i None
null-set d t o p values ws mask ns n i long e f h =
    same-column t p o (rows_of ws ns) (slice_set (rows_of values mask) i (d, false)) (is_some ns) true h
    (ap₂ rows_of e f ∙ set-null-rows values mask n i d long)
    (ap is_some f)

pub ruleset row_steps = (
  first-rows,
  first-fits,
  length-rows,
  stored-rows,
  mask-rows,
  valid-rows,
  seconds-zip,
  marks-all,
  set-mark,
  no-clear,
  cut-rows,
  is_some-option_map,
  push_valid-rows,
  push_null-rows,
  push_valid-fits,
  push_null-fits,
  frozen-rows,
  frozen-held,
  clear-rows,
  mark-at,
)

-- a valid row behind those of a column without a mask
pub unmasked-push : {A S : Type 0} (t : LogicalType) (around then_around : A) (values more : List S)
    (mask : Option (List Bool)) (v : S) (column : ColumnWith A S)
    → column_with t around values mask ≡ column → column.held ≡ false → more ≡ values ++ v ∷ [] → then_around ≡ around
    → column_with t then_around more mask ≡ record column { rows = column.rows ++ (v, true) ∷ [] }
unmasked-push t around then_around values more None v column is bare grown same =
    rw (← is, grown, same) (ap (λ rows. let whole : ColumnWith _ _ = record {
      data_type = t;
      around = around;
      rows =
          rows;
      held = false;
    } in whole) (map-append (λ x. (x, true)) values (v ∷ [])))
unmasked-push t around then_around values more (Some marks) v column is bare grown same =
    absurd (true≢false (ap (λ c. c.held) is ∙ bare))
