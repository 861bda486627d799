-- Lemmas on four bytes that are compared as a number.
use Rattle.std.proofs.Common.{◌≡◌, ℕ, ◌<◌, Bool, true, false, List, length, get_or, eqb, w32, refl, sym, ap, ◌∙◌}
use Rattle.std.specs.Prelude.{bytes_eq}
use Rattle.std.specs.Int.{from_le_bytes, to_le_bytes}
use Rattle.std.proofs.lemmas.Bool.{eq-eqb, eqb-true}
use Rattle.std.proofs.lemmas.Nat.{le_bytes_4}
use Rattle.std.proofs.lemmas.Slice.Eq.{bytes_eq-Decides}

-- the numbers are the same exactly if the bytes are
pub same_numbers : (xs ys : List ℕ) (m n : ℕ) → length xs ≡ 4 → length ys ≡ 4 → ((i : ℕ) → get_or xs i 0 < 256)
    → ((i : ℕ) → get_or ys i 0 < 256) → m ≡ from_le_bytes w32 xs → n ≡ from_le_bytes w32 ys → eqb m n ≡ bytes_eq xs ys
same_numbers xs ys m n long long' small small' a b = by_test (bytes_eq xs ys) refl
  where
    by_test : (t : Bool) → bytes_eq xs ys ≡ t → eqb m n ≡ t
    by_test true e = eq-eqb m n (a ∙ ap (from_le_bytes w32) ((bytes_eq-Decides xs ys).0 e) ∙ sym b)
    by_test false e = by_number (eqb m n) refl
      where
        by_number : (t : Bool) → eqb m n ≡ t → t ≡ false
        by_number false h = refl
        by_number true h =
            let numbers = eqb-true m n h in
            let bytes : xs ≡ ys = sym (le_bytes_4 xs m long small a) ∙ ap (to_le_bytes w32) numbers ∙ le_bytes_4 ys n long' small' b in
            sym ((bytes_eq-Decides xs ys).1 bytes) ∙ e
