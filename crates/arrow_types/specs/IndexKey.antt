-- Keys that give indexes.
use Rattle.std.specs.Prelude.{ℕ, ◌^◌, ℤ, pos, negsuc, nat_lt, Option, Some, None, if◌then◌else◌}

-- the index that a number is, where it is not negative and fits in a usize
abbrev pub index_of : ℤ → Option ℕ
index_of (pos n) = if nat_lt n (2 ^ 64) then Some n else None
index_of (negsuc n) = None
