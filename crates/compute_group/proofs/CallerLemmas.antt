-- For callers: groups of rows of several columns.
--     refined      the groups of rows by the numbers of their groups in each column are those of the rows
use Rattle.std.proofs.Common.{◌≡◌, ◌≢◌, ℕ, zero, suc, ◌<◌, List, [], ◌∷◌, length, slice_get, Some, sym}
use Rattle.std.proofs.Common.{ap, ◌∙◌, arith}
use Rattle.std.specs.List.{zip}
use Rattle.std.proofs.lemmas.Slice.Zip.{length-zip}
use Rattle.std.proofs.lemmas.Option.{none-some, same_Some, slice_get_within}
use Rattle.arrow_types.proofs.CallerLemmas.{get-some, get-zip}
use Rattle.compute_group.specs.Grouping.{IsGrouping}
use Rattle.compute_group.proofs.GroupLemmas.{same-numbers, same-slots}

-- ---- a row at a place

zip_from : {X Y : Type 0} (xs : List X) (ys : List Y) (i : ℕ) (x : X) (y : Y) → slice_get (zip xs ys) i ≡ Some (x, y)
    → (slice_get xs i ≡ Some x) × (slice_get ys i ≡ Some y)
zip_from [] ys i x y at = absurd (none-some (x, y) at)
zip_from (x' ∷ xs) [] i x y at = absurd (none-some (x, y) at)
zip_from (x' ∷ xs) (y' ∷ ys) zero x y at =
    let e : (x', y') ≡ (x, y) = same_Some (x', y') (x, y) at in
    (ap (λ p. Some p.0) e, ap (λ p. Some p.1) e)
zip_from (x' ∷ xs) (y' ∷ ys) (suc i) x y at = zip_from xs ys i x y at

module _ {X Y : Type 0} (xs : List X) (ys : List Y) (first_x numbers_x first_y numbers_y first numbers : List ℕ)
    (in_x : IsGrouping xs first_x numbers_x) (in_y : IsGrouping ys first_y numbers_y)
    (both : IsGrouping (zip numbers_x numbers_y) first numbers) (long : length numbers_x ≡ length numbers_y) where
  rows : length (zip xs ys) ≡ length numbers_x
  rows = length-zip xs ys ∙ omega (arith, in_x.count, in_y.count, long)

  pairs : length (zip numbers_x numbers_y) ≡ length numbers_x
  pairs = length-zip numbers_x numbers_y ∙ omega (arith, long)

  -- rows are equal if their pairs of numbers are
  same_rows : (i j : ℕ) → i < length numbers_x → j < length numbers_x
      → slice_get (zip numbers_x numbers_y) i ≡ slice_get (zip numbers_x numbers_y) j → slice_get (zip xs ys) i ≡ slice_get (zip xs ys) j
  same_rows i j low below e =
      let g = get-some numbers_x i low in
      let h = get-some numbers_y i (omega (arith, low, long)) in
      let pair = get-zip numbers_x numbers_y i g.0 h.0 g.1 h.1 in
      let other = zip_from numbers_x numbers_y j g.0 h.0 (sym e ∙ pair) in
      let x = get-some xs i (omega (arith, low, in_x.count)) in
      let y = get-some ys i (omega (arith, low, in_y.count, long)) in
      let is_x : slice_get xs j ≡ Some x.0 = same-slots xs first_x numbers_x in_x j i g.0 other.0 g.1 ∙ x.1 in
      let is_y : slice_get ys j ≡ Some y.0 = same-slots ys first_y numbers_y in_y j i h.0 other.1 h.1 ∙ y.1 in
      get-zip xs ys i x.0 y.0 x.1 y.1 ∙ sym (get-zip xs ys j x.0 y.0 is_x is_y)

  pub refined : IsGrouping (zip xs ys) first numbers
  refined = record {
    count = both.count ∙ pairs ∙ sym rows;
    members = λ i g at. member i g at (both.members i g at);
    within = λ g f at. omega (arith, both.within g f at, pairs, rows);
    news = λ g f i at low same. new g f i at low same;
    order = both.order;
  }
    where
      member : (i g : ℕ) → slice_get numbers i ≡ Some g
          → (f : ℕ) × (slice_get first g ≡ Some f) × (slice_get (zip numbers_x numbers_y) f ≡ slice_get (zip numbers_x numbers_y) i)
          → (f : ℕ) × (slice_get first g ≡ Some f) × (slice_get (zip xs ys) f ≡ slice_get (zip xs ys) i)
      member i g number (f, at, e) =
          let low = slice_get_within numbers i g number in
          (f, at, same_rows f i (omega (arith, both.within g f at, pairs)) (omega (arith, low, both.count, pairs)) e)

      new : (g f i : ℕ) → slice_get first g ≡ Some f → i < f → slice_get (zip xs ys) i ≢ slice_get (zip xs ys) f
      new g f i at low e =
          let end = both.within g f at in
          let x = get-some xs i (omega (arith, low, end, pairs, in_x.count)) in
          let y = get-some ys i (omega (arith, low, end, pairs, long, in_y.count)) in
          let other = zip_from xs ys f x.0 y.0 (sym e ∙ get-zip xs ys i x.0 y.0 x.1 y.1) in
          let g_x = get-some numbers_x i (omega (arith, low, end, pairs)) in
          let g_y = get-some numbers_y i (omega (arith, low, end, pairs, long)) in
          let also_x = sym (same-numbers xs first_x numbers_x in_x i f x.0 x.1 other.0) ∙ g_x.1 in
          let also_y = sym (same-numbers ys first_y numbers_y in_y i f y.0 y.1 other.1) ∙ g_y.1 in
          both.news g f i at low (get-zip numbers_x numbers_y i g_x.0 g_y.0 g_x.1 g_y.1
          ∙ sym (get-zip numbers_x numbers_y f g_x.0 g_y.0 also_x also_y))
