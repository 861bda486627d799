use Rattle.std.specs.Prelude.{ℤ, pos, None, Option, Some}

-- a slot, and one of zero for a null
abbrev pub zero_for_null : Option ℤ → Option ℤ
zero_for_null None = Some (pos 0)
zero_for_null (Some value) = Some value
