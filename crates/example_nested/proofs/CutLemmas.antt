-- Lemmas about cuts of list arrays.
use Rattle.std.proofs.Common.{◌≡◌, ℕ, ◌+◌, ◌<◌, ◌≤◌, Bool, true, List, length, take, drop}
use Rattle.std.proofs.Common.{option_map, Option, Some, None, ap, sym, ◌∙◌, arith}
use Rattle.dethrugn.specs.Validation.{Passes}
use Rattle.dethrugn.specs.Offsets.{IsOffsets}
use Rattle.dethrugn.specs.Pieces.{items_of}
use Rattle.dethrugn.specs.Rows.{FitsMask, rows_of}
use Rattle.dethrugn.proofs.CallerLemmas.Bytes.{items-cut, last-window, length-items}
use Rattle.dethrugn.proofs.CallerLemmas.Types.{length-piece, map-piece, zip-drop, zip-take}
use Rattle.example_nested.specs.Lists.{list_tests, lists_of}

abbrev pub cut_mask : ℕ → ℕ → Option (List Bool) → Option (List Bool)
cut_mask a n mask = option_map (λ marks. take n (drop a marks)) mask

cut-rows : {X : Type 0} (a n : ℕ) (xs : List X) (mask : Option (List Bool))
    → rows_of (take n (drop a xs)) (cut_mask a n mask) ≡ take n (drop a (rows_of xs mask))
cut-rows a n xs None = map-piece (λ x. (x, true)) xs a n
cut-rows a n xs (Some marks) = zip-take n (drop a xs) (drop a marks) ∙ ap (take n) (zip-drop a xs marks)

cut-fits : {X : Type 0} (a n : ℕ) (xs : List X) (mask : Option (List Bool)) → a + n ≤ length xs → FitsMask xs mask
    → FitsMask (take n (drop a xs)) (cut_mask a n mask)
cut-fits a n xs None within fits = tt
cut-fits a n xs (Some marks) within fits =
    let e : length marks ≡ length xs = fits in
    length-piece marks a n (omega (arith, within, e)) ∙ sym (length-piece xs a n within)

module _ {S : Type 0} (offsets : List ℕ) (slots : List (Option S)) (mask : Option (List Bool)) (a n : ℕ) where
  pub cut-lists : lists_of (take (n + 1) (drop a offsets)) slots (cut_mask a n mask)
      ≡ take n (drop a (lists_of offsets slots mask))
  cut-lists = ap (λ items. rows_of items (cut_mask a n mask)) (items-cut a n offsets slots)
      ∙ cut-rows a n (items_of offsets slots) mask

  pub cut-passes : IsOffsets offsets → Passes (list_tests offsets slots mask) → a + n < length offsets
      → Passes (list_tests (take (n + 1) (drop a offsets)) slots (cut_mask a n mask))
  cut-passes legal passes within =
      let all = length-items offsets slots legal.some in
      let fits = cut-fits a n (items_of offsets slots) mask (omega (arith, within, all)) passes.1.0 in (
        omega (arith, last-window a n offsets legal within, passes.0),
        (rw (items-cut a n offsets slots) fits, tt),
      )
