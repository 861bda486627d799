-- Lemmas about pieces of lists that were written.
use Rattle.std.proofs.Common.{◌≡◌, ℕ, ◌≤◌, List, ◌++◌, length, take, drop, length-take, ap}
use Rattle.std.proofs.Common.{◌∙◌, arith}
use Rattle.std.proofs.lemmas.List.{take_at, drop_at}

-- a piece that was written
pub piece_written : {S : Type 0} (old ws rest : List S) (o n : ℕ) → o ≤ length old → length ws ≡ n
    → take n (drop o (take o old ++ (ws ++ rest))) ≡ ws
piece_written old ws rest o n within long =
    let front : length (take o old) ≡ o = simp length-take (omega arith) in
    ap (take n) (drop_at (take o old) (ws ++ rest) o front) ∙ take_at ws rest n long
