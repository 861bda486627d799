-- Logic of booleans in which a null operand makes a null.
use Rattle.std.specs.Prelude.{◌&&◌, ◌||◌, Bool, false, not, Option, option_map, unwrap_or}
use Rattle.compute_base.specs.Slots.{combine_valid}

-- null where either is null, else whether both are true
abbrev pub and_slots : Option Bool → Option Bool → Option Bool
and_slots = combine_valid (λ x y. x && y)

-- null where either is null, else whether at least one is true
abbrev pub or_slots : Option Bool → Option Bool → Option Bool
or_slots = combine_valid (λ x y. x || y)

-- null where the slot is null, else the opposite
abbrev pub not_slot : Option Bool → Option Bool
not_slot = option_map not

-- whether a slot is valid and true
abbrev pub is_true : Option Bool → Bool
is_true slot = unwrap_or slot false
