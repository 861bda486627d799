-- The first bytes of byte strings. Only private functions cite this.
use Rattle.std.specs.Prelude.{ℕ, ◌+◌, ◌*◌, ◌<◌, List, get_or}

-- the first four bytes as a number, the first byte as its highest
abbrev pub four_bytes : List ℕ → ℕ
four_bytes bytes = (get_or bytes 0 0 * 256 + get_or bytes 1 0) * 65536 + (get_or bytes 2 0 * 256 + get_or bytes 3 0)

-- the second to the fourth number are bytes
pub record AreBytes (bytes : List ℕ) : Type 0 where
  pub second : get_or bytes 1 0 < 256
  pub third : get_or bytes 2 0 < 256
  pub fourth : get_or bytes 3 0 < 256
