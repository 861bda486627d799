-- Lemmas about results of growths, which may fail.
use Rattle.std.proofs.Common.{◌≡◌, Bool, true, false, refl}
use Rattle.std.specs.Prelude.{⊤}
use Rattle.arrow_types.specs.declared.error.Error.{Error}
use Rattle.arrow_column.specs.Column.{refused_growth}
use Rattle.arrow_memory.specs.Offsets.{MatchGrowth}

-- a growth that was refused for what does not fit was so only where something does not
pub match-growth : (e : Error) (overflows : Bool) (P : Type 0) → e ≡ refused_growth overflows
    → (overflows ≡ true → P) → MatchGrowth e P ⊤
match-growth e true P is then = rw is (then refl)
match-growth e false P is then = rw is tt
