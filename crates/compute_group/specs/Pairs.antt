-- Pairs of numbers as keys. Only private functions cite this.
use Rattle.std.specs.Prelude.{◌≡◌, ◌==◌, ◌&&◌, ℕ}
use Rattle.std.specs.Bool.{Decides}
use Rattle.std.specs.Cmp.{first_so, second_so, unsigned_Decides}
use Rattle.std.proofs.Common.{ap, ap₂}

-- the test of two pairs decides whether they are equal
pub pairs_decide : (x y : ℕ × ℕ) → Decides (x.0 == y.0 && x.1 == y.1) (x ≡ y)
pairs_decide (a, b) (c, d) = (
  λ e. ap₂ (λ m n. (m, n)) ((unsigned_Decides a c).0 (first_so (a == c) (b == d) e))
      ((unsigned_Decides b d).0 (second_so (a == c) (b == d) e)),
  λ e. ap₂ ◌&&◌ ((unsigned_Decides a c).1 (ap (λ p. p.0) e)) ((unsigned_Decides b d).1 (ap (λ p. p.1) e)),
)
