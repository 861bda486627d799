-- Lemmas about some elements of a list: those with a set mark, and those at keys.
use Rattle.std.proofs.Common.{◌≡◌, ℕ, zero, suc, ◌+◌, ◌-◌, ◌<◌, ◌≤◌, ℤ, Bool, true, false, ◌&&◌, cond, IsTrue}
use Rattle.std.proofs.Common.{if◌then◌else◌, List, [], ◌∷◌, ◌++◌, length, map, take, drop, get_or, slice_get}
use Rattle.std.proofs.Common.{Option, Some, None, option_and_then, option_map, refl, sym, subst, ap, ap₂}
use Rattle.std.proofs.Common.{◌∙◌, arith}
use Rattle.std.specs.Prelude.{not, All, IfErr, IfSome, IsSomeAnd, MatchOption, Result, Ok, Err, count_by, find}
use Rattle.std.specs.Prelude.{unwrap_or}
use Rattle.std.specs.List.{cons_option, list_all}
use Rattle.std.proofs.Math.Seq.{take-add, take-length}
use Rattle.std.proofs.lemmas.Bool.{false≢true}
use Rattle.std.proofs.lemmas.List.{take_more, length-map}
use Rattle.std.proofs.lemmas.List.Elements.{filter_map-append}
use Rattle.std.proofs.lemmas.List.Sums.{sum_by-cons}
use Rattle.std.proofs.lemmas.Option.{MatchOption-at_none, cond_some, slice_get-map}
use Rattle.arrow_types.specs.Types.{LogicalType}
use Rattle.arrow_types.specs.IndexKey.{index_of}
use Rattle.arrow_types.proofs.CallerLemmas.{all-by_count}
use Rattle.arrow_memory.specs.Rows.{FitsMask, Row, slot}
use Rattle.arrow_column.specs.Masks.{mask_with_nulls}
use Rattle.arrow_column.specs.Column.{Column, ColumnWith, IsColumn, column_with, mask_of, marks_of, stored_values}
use Rattle.arrow_column.proofs.CallerLemmas.{column_again, slots_valid, valid_by_held}
use Rattle.arrow_check.specs.Indexes.{in_bounds}
use Rattle.arrow_bytes.specs.Selection.{asked, at_key, at_keys, column_of_rows, filtered, first_out_of_bounds}
use Rattle.arrow_bytes.specs.Selection.{taken, where_set}
use Rattle.compute_base.proofs.CallerLemmas.{in_both}
use Rattle.arrow_kernels.specs.Filtering.{where-gap}

-- ---- one more

-- one more value with a set mark
pub where-set : {X : Type 0} (marks : List Bool) (xs : List X) (i : ℕ) (x : X) → slice_get marks i ≡ Some true
    → slice_get xs i ≡ Some x
    → where_set (take (i + 1) marks) (take (i + 1) xs) ≡ where_set (take i marks) (take i xs) ++ x ∷ []
where-set {X} marks xs i x e f = let next : i + 1 ≡ suc i = omega arith in
    ap (λ k. where_set (take k marks) (take k xs)) next ∙ more marks xs i e f
  where
    more : (marks : List Bool) (xs : List X) (i : ℕ) → slice_get marks i ≡ Some true → slice_get xs i ≡ Some x
        → where_set (take (suc i) marks) (take (suc i) xs) ≡ where_set (take i marks) (take i xs) ++ x ∷ []
    more [] xs i e f = cc
    more (m ∷ marks) [] i e f = cc
    more (m ∷ marks) (y ∷ xs) zero e f =
        let set : m ≡ true = cc in
        let here : y ≡ x = cc in
        ap₂ (λ b z. cons_option (if b then Some z else None) []) set here
    more (true ∷ marks) (y ∷ xs) (suc i) e f = ap (λ rest. y ∷ rest) (more marks xs i e f)
    more (false ∷ marks) (y ∷ xs) (suc i) e f = more marks xs i e f

-- the rows up to the next that is asked for
pub where-next : {X : Type 0} (marks : List Bool) (xs : List X) (i j : ℕ) (x : X) → slice_get marks i ≡ Some true
    → slice_get xs i ≡ Some x
    → i + 1 ≤ j → ((k : ℕ) → i + 1 ≤ k → k < j → slice_get marks k ≡ Some false)
    → where_set (take j marks) (take j xs) ≡ where_set (take i marks) (take i xs) ++ x ∷ []
where-next marks xs i j x e f up clear =
    let there : j ≡ (i + 1) + (j - (i + 1)) = omega arith in
    ap (λ k. where_set (take k marks) (take k xs)) there
    ∙ where-gap marks xs (i + 1) (j - (i + 1)) (λ k low high. clear k low (omega arith))
    ∙ where-set marks xs i x e f

-- a list of the selected items below i becomes that below j, if the item at i is pushed and none after it is selected
pub where-grown : {X : Type 0} (marks : List Bool) (xs : List X) (i j : ℕ) (x : X) (old new : List X)
    → slice_get marks i ≡ Some true → slice_get xs i ≡ Some x
    → i + 1 ≤ j → ((k : ℕ) → i + 1 ≤ k → k < j → slice_get marks k ≡ Some false)
    → old ≡ where_set (take i marks) (take i xs) → new ≡ old ++ x ∷ [] → new ≡ where_set (take j marks) (take j xs)
where-grown marks xs i j x old new e f up clear was pushed = pushed ∙ ap (λ ys. ys ++ x ∷ []) was
    ∙ sym (where-next marks xs i j x e f up clear)

-- as many marks as values, all of them
pub where-all : {X : Type 0} (marks : List Bool) (xs : List X) (n : ℕ) → n ≡ length marks → n ≡ length xs
    → where_set (take n marks) (take n xs) ≡ where_set marks xs
where-all marks xs n long wide = ap₂ where_set (ap (λ k. take k marks) long ∙ take-length marks)
    (ap (λ k. take k xs) wide ∙ take-length xs)

-- of lists one behind the other
pub where-append : {X : Type 0} (marks others : List Bool) (xs ys : List X) → length marks ≡ length xs
    → where_set (marks ++ others) (xs ++ ys) ≡ where_set marks xs ++ where_set others ys
where-append [] others [] ys long = refl
where-append [] others (x ∷ xs) ys long = cc
where-append (m ∷ marks) others [] ys long = cc
where-append (true ∷ marks) others (x ∷ xs) ys long =
    ap (λ rest. x ∷ rest) (where-append marks others xs ys (let e : length marks ≡ length xs =
    omega (arith, long) in e))
where-append (false ∷ marks) others (x ∷ xs) ys long =
    where-append marks others xs ys (let e : length marks ≡ length xs = omega (arith, long) in e)

-- what stands at the place that a key tells
pub key-place : {X : Type 0} (xs : List X) (key : ℤ) (place : ℕ) (x : X) → index_of key ≡ Some place
    → slice_get xs place ≡ Some x → at_key xs key ≡ Some x
key-place xs key place x e f = ap (option_and_then (slice_get xs)) e ∙ f

-- one more key
pub keys-more : {K X : Type 0} (number : K → ℤ) (keys : List K) (xs : List X) (i : ℕ) (key : K) (x : X)
    → i < length keys → key ≡ get_or keys i key → at_key xs (number key) ≡ Some x
    → at_keys number (take (i + 1) keys) xs ≡ at_keys number (take i keys) xs ++ x ∷ []
keys-more number keys xs i key x low read found =
    ap (λ ks. at_keys number ks xs) (take_more keys i key low ∙ ap (λ k. take i keys ++ k ∷ []) (sym read))
    ∙ filter_map-append (λ k. at_key xs (number k)) (take i keys) (key ∷ [])
    ∙ ap (λ o. at_keys number (take i keys) xs ++ cons_option o []) found

-- so many keys more
pub keys-append : {K X : Type 0} (number : K → ℤ) (keys : List K) (xs : List X) (i n : ℕ)
    → at_keys number (take (i + n) keys) xs ≡ at_keys number (take i keys) xs
    ++ at_keys number (take n (drop i keys)) xs
keys-append number keys xs i n =
    ap (λ ks. at_keys number ks xs) (take-add i n keys)
    ∙ filter_map-append (λ key. at_key xs (number key)) (take i keys) (take n (drop i keys))

-- a list of the elements at the first i keys becomes that at i + 1 by pushing the element at the next key
pub keys-grown : {K X : Type 0} (number : K → ℤ) (keys : List K) (xs : List X) (i : ℕ) (key : K) (x : X)
    (old new : List X) → i < length keys → key ≡ get_or keys i key → at_key xs (number key) ≡ Some x
    → old ≡ at_keys number (take i keys) xs → new ≡ old ++ x ∷ [] → new ≡ at_keys number (take (i + 1) keys) xs
keys-grown number keys xs i key x old new low read found was pushed = pushed ∙ ap (λ ys. ys ++ x ∷ []) was
    ∙ sym (keys-more number keys xs i key x low read found)

-- ---- parts of rows

pub where-map : {X Y : Type 0} (f : X → Y) (marks : List Bool) (xs : List X)
    → where_set marks (map f xs) ≡ map f (where_set marks xs)
where-map f marks [] = refl
where-map f [] (x ∷ xs) = refl
where-map f (true ∷ marks) (x ∷ xs) = ap (λ rest. f x ∷ rest) (where-map f marks xs)
where-map f (false ∷ marks) (x ∷ xs) = where-map f marks xs

option-map : {X Y : Type 0} (f : X → Y) (xs : List X) (place : Option ℕ)
    → option_and_then (slice_get (map f xs)) place ≡ option_map f (option_and_then (slice_get xs) place)
option-map f xs None = refl
option-map f xs (Some place) = slice_get-map f xs place

cons-map : {X Y : Type 0} (f : X → Y) (o : Option X) (xs : List X)
    → cons_option (option_map f o) (map f xs) ≡ map f (cons_option o xs)
cons-map f None xs = refl
cons-map f (Some x) xs = refl

pub keys-map : {K X Y : Type 0} (f : X → Y) (number : K → ℤ) (keys : List K) (xs : List X)
    → at_keys number keys (map f xs) ≡ map f (at_keys number keys xs)
keys-map f number [] xs = refl
keys-map f number (key ∷ keys) xs =
    ap₂ cons_option (option-map f xs (index_of (number key))) (keys-map f number keys xs)
    ∙ cons-map f (at_key xs (number key)) (at_keys number keys xs)

-- ---- rows that are all valid

and-parts : (a b : Bool) → IsTrue (a && b) → IsTrue a × IsTrue b
and-parts true b h = (refl, h)
and-parts false b h = cc

and-both : (a b : Bool) → IsTrue a → IsTrue b → IsTrue (a && b)
and-both true b h k = k
and-both false b h k = cc

pub where-valid : {X : Type 0} (test : X → Bool) (marks : List Bool) (xs : List X) → IsTrue (list_all test xs)
    → IsTrue (list_all test (where_set marks xs))
where-valid test marks [] h = refl
where-valid test [] (x ∷ xs) h = refl
where-valid test (true ∷ marks) (x ∷ xs) h =
    let parts = and-parts (test x) (list_all test xs) h in
    and-both (test x) _ parts.0 (where-valid test marks xs parts.1)
where-valid test (false ∷ marks) (x ∷ xs) h = where-valid test marks xs (and-parts (test x) (list_all test xs) h).1

abbrev Passes : {X : Type 0} → (X → Bool) → Option X → Type 0
Passes test o = IfSome o (λ x. IsTrue (test x))

at-valid : {X : Type 0} (test : X → Bool) (xs : List X) (i : ℕ) → IsTrue (list_all test xs)
    → Passes test (slice_get xs i)
at-valid test [] i h = tt
at-valid test (x ∷ xs) zero h = (and-parts (test x) (list_all test xs) h).0
at-valid test (x ∷ xs) (suc i) h = at-valid test xs i (and-parts (test x) (list_all test xs) h).1

place-valid : {X : Type 0} (test : X → Bool) (xs : List X) (place : Option ℕ) → IsTrue (list_all test xs)
    → Passes test (option_and_then (slice_get xs) place)
place-valid test xs None h = tt
place-valid test xs (Some i) h = at-valid test xs i h

cons-valid : {X : Type 0} (test : X → Bool) (o : Option X) (xs : List X) → Passes test o → IsTrue (list_all test xs)
    → IsTrue (list_all test (cons_option o xs))
cons-valid test None xs p h = h
cons-valid test (Some x) xs p h = and-both (test x) (list_all test xs) p h

pub keys-valid : {K X : Type 0} (test : X → Bool) (number : K → ℤ) (keys : List K) (xs : List X)
    → IsTrue (list_all test xs) → IsTrue (list_all test (at_keys number keys xs))
keys-valid test number [] xs h = refl
keys-valid test number (key ∷ keys) xs h =
    cons-valid test (at_key xs (number key)) (at_keys number keys xs) (place-valid test xs (index_of (number key))
    h) (keys-valid test number keys xs h)

pub count-le : (marks : List Bool) → count_by not marks ≤ length marks
count-le [] = omega arith
count-le (true ∷ marks) =
    let same : count_by not (true ∷ marks) ≡ 0 + count_by not marks = sum_by-cons (λ m. cond (not m) 1 0) true marks in
    omega (arith, same, count-le marks)
count-le (false ∷ marks) =
    let same : count_by not (false ∷ marks) ≡ 1 + count_by not marks =
    sum_by-cons (λ m. cond (not m) 1 0) false marks in
    omega (arith, same, count-le marks)

each-set : {X : Type 0} (marks : List Bool) (xs : List X) → list_all (λ mark. mark) marks ≡ true
    → length marks ≡ length xs → where_set marks xs ≡ xs
each-set [] [] all long = refl
each-set [] (x ∷ xs) all long = cc
each-set (m ∷ marks) [] all long = cc
each-set (true ∷ marks) (x ∷ xs) all long =
    ap (λ rest. x ∷ rest) (each-set marks xs all (let e : length marks ≡ length xs = omega (arith, long) in e))
each-set (false ∷ marks) (x ∷ xs) all long = cc

-- as many values as marks, none of which is clear
pub where-full : {X : Type 0} (marks : List Bool) (xs : List X) → count_by not marks ≡ 0 → length marks ≡ length xs
    → where_set marks xs ≡ xs
where-full marks xs none long = each-set marks xs ((all-by_count marks).0 none) long

-- each mark is clear
pub where-none : {X : Type 0} (marks : List Bool) (xs : List X) → count_by not marks ≡ length marks
    → where_set marks xs ≡ []
where-none marks [] all = refl
where-none [] (x ∷ xs) all = refl
where-none (true ∷ marks) (x ∷ xs) all =
    let same : count_by not (true ∷ marks) ≡ 0 + count_by not marks = sum_by-cons (λ m. cond (not m) 1 0) true marks in
    absurd (omega (arith, same, all, count-le marks))
where-none (false ∷ marks) (x ∷ xs) all =
    let same : count_by not (false ∷ marks) ≡ 1 + count_by not marks =
    sum_by-cons (λ m. cond (not m) 1 0) false marks in
    where-none marks xs (omega (arith, same, all))

shown-values : (values : List Bool) → map (λ shown. unwrap_or shown false) (map Some values) ≡ values
shown-values [] = refl
shown-values (x ∷ values) = ap (λ rest. x ∷ rest) (shown-values values)

-- a filter without a mask asks by its values
pub bare-asked : (filter : Column Bool) → IsColumn filter → mask_of filter ≡ None → asked filter ≡ stored_values filter
bare-asked filter is_column bare =
    ap (map (λ shown. unwrap_or shown false))
    (slots_valid filter.rows (valid_by_held filter.held filter.rows is_column bare))
    ∙ shown-values (stored_values filter)

marks-all : {S : Type 0} (rows : List (Row S))
    → list_all (λ mark. mark) (map (λ row. row.1) rows) ≡ list_all (λ row. row.1) rows
marks-all [] = refl
marks-all (row ∷ rows) = ap (λ b. row.1 && b) (marks-all rows)

-- a filter without a null asks by its values
pub valid-asked : (filter : Column Bool) (marks : List Bool) → mask_of filter ≡ Some marks → count_by not marks ≡ 0
    → asked filter ≡ stored_values filter
valid-asked filter marks mask none =
    let all = (all-by_count (map (λ row. row.1) filter.rows)).0
    (ap (count_by not) (cond_some filter.held (marks_of filter) marks mask).1 ∙ none) in
    ap (map (λ shown. unwrap_or shown false)) (slots_valid filter.rows (sym (marks-all filter.rows) ∙ all))
    ∙ shown-values (stored_values filter)

shown-both : (value mark : Bool) → unwrap_or (if mark then Some value else None) false ≡ (mark && value)
shown-both value true = refl
shown-both value false = refl

each-asked : (rows : List (Row Bool))
    → map (λ shown. unwrap_or shown false) (map slot rows) ≡ in_both (map (λ row. row.1) rows) (map (λ row. row.0) rows)
each-asked [] = refl
each-asked (row ∷ rows) = ap₂ ◌∷◌ (shown-both row.0 row.1) (each-asked rows)

-- a filter with a mask asks where both a value and its mark are set
pub masked-asked : (filter : Column Bool) (marks : List Bool) → mask_of filter ≡ Some marks
    → asked filter ≡ in_both marks (stored_values filter)
masked-asked filter marks mask = each-asked filter.rows
    ∙ ap (λ ms. in_both ms (stored_values filter)) (cond_some filter.held (marks_of filter) marks mask).1

-- ---- columns of rows

marked : {A S : Type 0} (t : LogicalType) (nothing : A) (rows : List (Row S)) (b : Bool)
    → list_all (λ (row : Row S). row.1) rows ≡ b
    → column_with t nothing (map (λ row. row.0) rows) (if b then None else Some (map (λ row. row.1) rows))
    ≡ record { data_type = t; around = nothing; rows = rows; held = not b }
marked t nothing rows true e = column_again t nothing false rows (λ _. e)
marked t nothing rows false e = column_again t nothing true rows (λ f. cc)

-- stored values and the mask that they need make a column of their rows
pub needed : {A S : Type 0} (t : LogicalType) (nothing : A) (held : Bool) (rows : List (Row S))
    → (held ≡ false → IsTrue (list_all (λ row. row.1) rows))
    → column_with t nothing (map (λ row. row.0) rows) (mask_with_nulls (if held then Some (map (λ row. row.1) rows)
    else None))
    ≡ record { data_type = t; around = nothing; rows = rows; held = not (list_all (λ row. row.1) rows) }
needed t nothing false rows h =
    column_again t nothing false rows h
    ∙ ap (λ b. record { data_type = t; around = nothing; rows = rows; held = not b }) (sym (h refl))
needed t nothing true rows h =
    ap (λ b. column_with t nothing (map (λ row. row.0) rows) (if b then None else Some (map (λ row. row.1) rows)))
    (marks-all rows)
    ∙ marked t nothing rows (list_all (λ row. row.1) rows) refl

pub needed-fits : {S : Type 0} (held : Bool) (rows : List (Row S))
    → FitsMask (map (λ row. row.0) rows) (mask_with_nulls (if held then Some (map (λ row. row.1) rows) else None))
needed-fits false rows = tt
needed-fits {S} true rows = by_test (list_all (λ mark. mark) (map (λ (row : Row S). row.1) rows))
  where
    by_test : (b : Bool) → FitsMask (map (λ row. row.0) rows) (if b then None
        else Some (map (λ (row : Row S). row.1) rows))
    by_test true = tt
    by_test false = length-map rows (λ row. row.1) ∙ sym (length-map rows (λ row. row.0))

mask-where : {S : Type 0} (marks : List Bool) (held : Bool) (rows : List (Row S))
    → option_map (where_set marks) (if held then Some (map (λ row. row.1) rows) else None)
    ≡ (if held then Some (map (λ row. row.1) (where_set marks rows)) else None)
mask-where marks true rows = ap Some (where-map (λ row. row.1) marks rows)
mask-where marks false rows = refl

mask-keys : {K S : Type 0} (number : K → ℤ) (keys : List K) (held : Bool) (rows : List (Row S))
    → option_map (at_keys number keys) (if held then Some (map (λ row. row.1) rows) else None)
    ≡ (if held then Some (map (λ row. row.1) (at_keys number keys rows)) else None)
mask-keys number keys true rows = ap Some (keys-map (λ row. row.1) number keys rows)
mask-keys number keys false rows = refl

-- what a filter leaves of stored values and of a mask makes the column of what it leaves of rows
pub column-kept : {A S : Type 0} (nothing : A) (column : ColumnWith A S) (marks : List Bool) → IsColumn column
    → column_with column.data_type nothing (where_set marks (stored_values column))
    (mask_with_nulls (option_map (where_set marks) (mask_of column))) ≡ column_of_rows nothing column
    (where_set marks column.rows)
column-kept nothing column marks is_column =
    ap₂ (λ values mask. column_with column.data_type nothing values (mask_with_nulls mask)) (where-map (λ row.
    row.0) marks column.rows) (mask-where marks column.held column.rows)
    ∙ needed column.data_type nothing column.held (where_set marks column.rows) (λ bare.
    where-valid (λ row. row.1) marks column.rows (is_column bare))

pub fits-kept : {A S : Type 0} (column : ColumnWith A S) (marks : List Bool)
    → FitsMask (where_set marks (stored_values column))
    (mask_with_nulls (option_map (where_set marks) (mask_of column)))
fits-kept {A} {S} column marks =
    let P : List S → Option (List Bool) → Type 0 = λ values mask. FitsMask values (mask_with_nulls mask) in
    subst (λ values. P values (option_map (where_set marks) (mask_of column)))
    (sym (where-map (λ row. row.0) marks column.rows))
    (subst (P (map (λ row. row.0) (where_set marks column.rows))) (sym (mask-where marks column.held column.rows))
    (needed-fits column.held (where_set marks column.rows)))

-- and so does what keys take
pub column-taken : {A S K : Type 0} (nothing : A) (column : ColumnWith A S) (number : K → ℤ) (keys : List K)
    → IsColumn column
    → column_with column.data_type nothing (at_keys number keys (stored_values column))
    (mask_with_nulls (option_map (at_keys number keys) (mask_of column))) ≡ column_of_rows nothing column
    (at_keys number keys column.rows)
column-taken nothing column number keys is_column =
    ap₂ (λ values mask. column_with column.data_type nothing values (mask_with_nulls mask)) (keys-map (λ row.
    row.0) number keys column.rows) (mask-keys number keys column.held column.rows)
    ∙ needed column.data_type nothing column.held (at_keys number keys column.rows) (λ bare.
    keys-valid (λ row. row.1) number keys column.rows (is_column bare))

pub fits-taken : {A S K : Type 0} (column : ColumnWith A S) (number : K → ℤ) (keys : List K)
    → FitsMask (at_keys number keys (stored_values column))
    (mask_with_nulls (option_map (at_keys number keys) (mask_of column)))
fits-taken {A} {S} column number keys =
    let P : List S → Option (List Bool) → Type 0 = λ values mask. FitsMask values (mask_with_nulls mask) in
    subst (λ values. P values (option_map (at_keys number keys) (mask_of column)))
    (sym (keys-map (λ row. row.0) number keys column.rows))
    (subst (P (map (λ row. row.0) (at_keys number keys column.rows)))
    (sym (mask-keys number keys column.held column.rows))
    (needed-fits column.held (at_keys number keys column.rows)))

-- where no row is null, no mask is needed of what is asked for
pub where-valid-mask : (asked marks : List Bool) → count_by not marks ≡ 0
    → None ≡ mask_with_nulls (Some (where_set asked marks))
where-valid-mask asked marks none =
    sym (ap (λ b. if b then None else Some (where_set asked marks)) (where-valid (λ mark.
    mark) asked marks ((all-by_count marks).0 none)))

-- nor of what keys take
pub keys-valid-mask : {K : Type 0} (number : K → ℤ) (keys : List K) (marks : List Bool) → count_by not marks ≡ 0
    → None ≡ mask_with_nulls (Some (at_keys number keys marks))
keys-valid-mask number keys marks none =
    sym (ap (λ b. if b then None else Some (at_keys number keys marks)) (keys-valid (λ mark. mark) number keys marks
    ((all-by_count marks).0 none)))

-- ---- what a kernel makes

pub fits-filtered : {A S : Type 0} (column : ColumnWith A S) (filter : Column Bool) (values : List S)
    (mask : Option (List Bool))
    → values ≡ where_set (asked filter) (stored_values column)
    → mask ≡ mask_with_nulls (option_map (where_set (asked filter)) (mask_of column)) → FitsMask values mask
fits-filtered {A} {S} column filter values mask e m =
    let P : List S → Option (List Bool) → Type 0 = λ vs o. FitsMask vs o in
    subst (λ vs. P vs mask) (sym e) (subst (P (where_set (asked filter) (stored_values column))) (sym m)
    (fits-kept column (asked filter)))

pub makes-filtered : {A S : Type 0} (nothing : A) (column : ColumnWith A S) (filter : Column Bool) (t : LogicalType)
    (values : List S) (mask : Option (List Bool)) → IsColumn column
    → t ≡ column.data_type → values ≡ where_set (asked filter) (stored_values column)
    → mask ≡ mask_with_nulls (option_map (where_set (asked filter)) (mask_of column))
    → column_with t nothing values mask ≡ filtered nothing column filter
makes-filtered nothing column filter t values mask is_column same e m =
    ap (λ u. column_with u nothing values mask) same
    ∙ ap₂ (column_with column.data_type nothing) e m
    ∙ column-kept nothing column (asked filter) is_column

pub fits-picked : {A S K : Type 0} (column : ColumnWith A S) (number : K
    → ℤ) (keys : List K) (values : List S) (mask : Option (List Bool))
    → values ≡ at_keys number keys (stored_values column)
    → mask ≡ mask_with_nulls (option_map (at_keys number keys) (mask_of column)) → FitsMask values mask
fits-picked {A} {S} column number keys values mask e m =
    let P : List S → Option (List Bool) → Type 0 = λ vs o. FitsMask vs o in
    subst (λ vs. P vs mask) (sym e) (subst (P (at_keys number keys (stored_values column))) (sym m)
    (fits-taken column number keys))

pub makes-taken : {A S K : Type 0} (nothing : A) (column : ColumnWith A S) (number : K
    → ℤ) (keys : List K) (t : LogicalType) (values : List S) (mask : Option (List Bool)) → IsColumn column
    → t ≡ column.data_type → values ≡ at_keys number keys (stored_values column)
    → mask ≡ mask_with_nulls (option_map (at_keys number keys) (mask_of column))
    → column_with t nothing values mask ≡ taken nothing number column keys
makes-taken nothing column number keys t values mask is_column same e m =
    ap (λ u. column_with u nothing values mask) same
    ∙ ap₂ (column_with column.data_type nothing) e m
    ∙ column-taken nothing column number keys is_column

-- ---- keys

-- where a key is refused, not every key tells a place
pub not-out_of_bounds : {A S K X E : Type 0} (column : ColumnWith A S) (number : K → ℤ) (keys : List K) (n : ℕ) (P : K
    → Type 0) (Q : E → Type 0) (r : Result X E) → n ≡ length column.rows
    → MatchOption (find (λ key. not (in_bounds n (number key))) keys) (false ≡ true) P
    → IfErr r (λ e. first_out_of_bounds number column keys ≡ None → Q e)
not-out_of_bounds column number keys n P Q (Ok x) same refused = tt
not-out_of_bounds column number keys n P Q (Err e) same refused = λ none.
    absurd (false≢true (MatchOption-at_none (false ≡ true) P
    (ap (λ k. find (λ key. not (in_bounds k (number key))) keys) same ∙ none) refused))

-- keys of a column's rows are keys of its mask
pub marks-below : {A S K : Type 0} (column : ColumnWith A S) (number : K → ℤ) (keys : List K) (held : Bool)
    → All (λ key. IsSomeAnd (index_of (number key)) (λ index. index < length column.rows)) keys
    → IfSome (if held then Some (map (λ row. row.1) column.rows) else None) (λ marks.
    All (λ key. IsSomeAnd (index_of (number key)) (λ index. index < length marks)) keys)
marks-below column number keys true all =
    subst (λ n. All (λ key. IsSomeAnd (index_of (number key)) (λ index. index < n)) keys)
    (sym (length-map column.rows (λ row. row.1))) all
marks-below column number keys false all = tt
