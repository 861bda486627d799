-- Lemmas about marks that are set in both of two lists.
use Rattle.std.proofs.Common.{◌≡◌, ℕ, zero, suc, ◌+◌, ◌<◌, ◌==◌, ◌&&◌, min, bit_and, Bool, false, List, [], ◌∷◌, ◌++◌}
use Rattle.std.proofs.Common.{length, take, slice_get, Some, refl, sym, ap, ap₂, ◌∙◌, arith}
use Rattle.std.specs.Int.{bit_at}
use Rattle.std.specs.List.{zip}
use Rattle.std.proofs.lemmas.List.{length-map}
use Rattle.std.proofs.lemmas.Nat.Bits.{bit_at_and, bit_at-lt}
use Rattle.std.proofs.lemmas.Slice.Zip.{length-zip}
use Rattle.arrow_memory.specs.Marks.{bits_of}
use Rattle.arrow_memory.specs.Rows.{Row}
use Rattle.arrow_memory.proofs.CallerLemmas.{take-bits}
use Rattle.arrow_column.specs.Combined.{set_in_both}

pub both-at : (values marks : List Bool) (i : ℕ) (v m : Bool) → slice_get values i ≡ Some v
    → slice_get marks i ≡ Some m → slice_get (set_in_both values marks) i ≡ Some (m && v)
both-at [] marks i v m e f = cc
both-at (x ∷ values) [] i v m e f = cc
both-at (x ∷ values) (y ∷ marks) zero v m e f =
    let value : x ≡ v = cc in
    let mark : y ≡ m = cc in
    ap₂ (λ a b. Some (b && a)) value mark
both-at (x ∷ values) (y ∷ marks) (suc i) v m e f = both-at values marks i v m e f

-- where the mark is clear
pub both-clear : (values marks : List Bool) (i : ℕ) (m : Bool) → slice_get marks i ≡ Some m → m ≡ false
    → i < length values → slice_get (set_in_both values marks) i ≡ Some false
both-clear [] marks i m e f low = absurd (omega arith)
both-clear (x ∷ values) [] i m e f low = cc
both-clear (x ∷ values) (y ∷ marks) zero m e f low =
    let mark : y ≡ false = cc in
    ap (λ b. Some (b && x)) mark
both-clear (x ∷ values) (y ∷ marks) (suc i) m e f low = both-clear values marks i m e f (omega (arith, low))

pub length-both : (values marks : List Bool) → length marks ≡ length values
    → length (set_in_both values marks) ≡ length values
length-both values marks same = omega (
  arith,
  length-map (zip values marks) (λ (row : Row Bool). row.1 && row.0),
  length-zip values marks,
  same,
)

both-bit : (a b : ℕ) → a < 2 → b < 2 → ((b == 1) && (a == 1)) ≡ (min a b == 1)
both-bit zero zero p q = refl
both-bit zero (suc zero) p q = refl
both-bit (suc zero) zero p q = refl
both-bit (suc zero) (suc zero) p q = refl
both-bit zero (suc (suc b)) p q = absurd (omega arith)
both-bit (suc zero) (suc (suc b)) p q = absurd (omega arith)
both-bit (suc (suc a)) b p q = absurd (omega arith)

-- one of 64 of them, found in words
pub both-found : (values marks : List Bool) (n v m : ℕ)
    → ((k : ℕ) → k < 64 → slice_get values (n + k) ≡ Some (bit_at v k == 1))
    → ((k : ℕ) → k < 64 → slice_get marks (n + k) ≡ Some (bit_at m k == 1))
    → (k : ℕ) → k < 64 → slice_get (set_in_both values marks) (n + k) ≡ Some (bit_at (bit_and v m) k == 1)
both-found values marks n v m read held k low =
    both-at values marks (n + k) (bit_at v k == 1) (bit_at m k == 1) (read k low) (held k low)
    ∙ ap Some (both-bit (bit_at v k) (bit_at m k) (bit_at-lt v k) (bit_at-lt m k)
    ∙ ap (λ x. x == 1) (sym (bit_at_and v m k)))

-- all of them
pub both-word : (values marks : List Bool) (n v m : ℕ)
    → ((k : ℕ) → k < 64 → slice_get values (n + k) ≡ Some (bit_at v k == 1))
    → ((k : ℕ) → k < 64 → slice_get marks (n + k) ≡ Some (bit_at m k == 1))
    → take (n + 64) (set_in_both values marks) ≡ take n (set_in_both values marks) ++ bits_of (bit_and v m) 64
both-word values marks n v m read held =
    take-bits (set_in_both values marks) n 64 (bit_and v m) (both-found values marks n v m read held)
