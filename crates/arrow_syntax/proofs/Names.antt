-- Lemmas on names.
use Rattle.std.proofs.Common.{◌≡◌, ℕ, ◌≤◌, true, List, length, take, sym, ◌∙◌, arith}
use Rattle.std.proofs.lemmas.List.{take_all}
use Rattle.std.specs.Prelude.{bytes_eq}
use Rattle.std.proofs.lemmas.Slice.Eq.{bytes_eq-Decides}

-- texts of one length whose first bytes, up to that length, are equal
pub same_whole : (xs ys : List ℕ) (n : ℕ) → length xs ≡ length ys → length ys ≤ n → take n xs ≡ take n ys
    → true ≡ bytes_eq xs ys
same_whole xs ys n e h same =
    let whole : xs ≡ ys = sym (take_all n xs (omega (arith, e))) ∙ same ∙ take_all n ys h in
    sym ((bytes_eq-Decides xs ys).1 whole)
