-- The slot at a place between two indexes, and the rules of what lies there.
use Rattle.std.proofs.Common.{◌≡◌, ℕ, ◌+◌, ◌-◌, ◌<◌, ◌≤◌, List, length, drop, slice_get}
use Rattle.std.proofs.Common.{Some, sym, ◌∙◌, get_or}
use Rattle.std.specs.Prelude.{slice_range}
use Rattle.std.proofs.lemmas.List.{get_or-drop, get_or-take}
use Rattle.std.proofs.lemmas.Option.{get_or_from_slice_get, slice_get_read}
use Rattle.dethrugn.proofs.CallerLemmas.Types.{between-first, between-last, length-between}

-- the slot at a place
pub range-at : {X : Type 0} (xs : List X) (i e k : ℕ) (x : X) → e ≤ length xs → k < e - i
    → slice_get xs (i + k) ≡ Some x → slice_get (slice_range xs i e) k ≡ Some x
range-at xs i e k x high low at =
    let read : get_or (slice_range xs i e) k x ≡ x = get_or-take (e - i) (drop i xs) k x low
    ∙ get_or-drop i xs k x ∙ get_or_from_slice_get xs (i + k) x x at in
    slice_get_read (slice_range xs i e) (e - i) k x (sym (length-between xs i e high)) low (sym read)

pub ruleset range_steps = (length-between, range-at, between-first, between-last)
