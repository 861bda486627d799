-- Prices.
use Rattle.std.specs.Prelude.{ℤ, negsuc, pos, None, Option, Some}

-- the price that a number stands for: none if it is negative
abbrev pub price_of : ℤ → Option ℤ
price_of (pos n) = Some (pos n)
price_of (negsuc n) = None
