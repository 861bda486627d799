-- Stored values of bytes: items, and what lies around them.
use Rattle.std.specs.Prelude.{ℕ, ◌+◌, Bool, nat_lt, List, [], ◌++◌, length, take, drop}
use Rattle.std.specs.List.{concat}
use Rattle.arrow_check.specs.Pieces.{items_of, lead_of, tail_of}

-- what lies around items: the bytes before the first of them, and those after the last
pub record Around : Type 0 where
  pub lead : List ℕ
  pub tail : List ℕ

-- items, and what lies around them
pub record Pieces : Type 0 where
  pub around : Around
  pub items : List (List ℕ)

-- nothing lies around
abbrev pub nothing_around : Around
nothing_around = record { lead = []; tail = [] }

-- these items, and nothing around them
abbrev pub bare_items : List (List ℕ) → Pieces
bare_items items = record { around = nothing_around; items = items }

-- more items behind these; what lies around them stays
abbrev pub append_items : Pieces → List (List ℕ) → Pieces
append_items pieces more = record pieces { items = pieces.items ++ more }

-- what lies around the items that offsets cut out of bytes
abbrev pub around_of : List ℕ → List ℕ → Around
around_of offsets bytes = record { lead = lead_of offsets bytes; tail = tail_of offsets bytes }

-- the three pieces of offsets and bytes
abbrev pub pieces_of : List ℕ → List ℕ → Pieces
pieces_of offsets bytes = record { around = around_of offsets bytes; items = items_of offsets bytes }

-- what lies around n of these items from index a on: the items before them are then part of the lead, and those
-- after them part of the tail
abbrev pub around_cut : Around → List (List ℕ) → ℕ → ℕ → Around
around_cut around items a n = record {
  lead = around.lead ++ concat (take a items);
  tail = concat (drop (a + n) items) ++ around.tail;
}

-- what lies before the items alone
abbrev pub lead_only : Around → Around
lead_only around = record around { tail = [] }

-- whether `added` bytes more after these items would end above the greatest offset
abbrev pub overflows_by : ℕ → Around → List (List ℕ) → ℕ → Bool
overflows_by most around items added = nat_lt most (length around.lead + length (concat items) + added)

-- whether these items more would end above the greatest offset
abbrev pub items_overflow : ℕ → Pieces → List (List ℕ) → Bool
items_overflow most pieces more = overflows_by most pieces.around pieces.items (length (concat more))
