-- The text of lists, from the texts of their items. Of a list with an item whose text is left open nothing is said.
use Rattle.std.specs.Prelude.{ℕ, List, [], Option, None, nat_lt, slice_index_or, if◌then◌else◌}
use Rattle.std.specs.Fmt.{comma_space, debug_list}

-- the items in brackets, with a comma between two
abbrev pub list_text : List (Option (List ℕ)) → Option (List ℕ)
list_text texts = debug_list (λ text. text) texts

-- the slot at an index, past the end a null; of texts of items, the text of the item there
abbrev pub slot_at : {X : Type 0} → List (Option X) → ℕ → Option X
slot_at slots i = slice_index_or slots i None

-- what stands before the item at a place
abbrev pub separator : ℕ → List ℕ
separator i = if nat_lt 0 i then comma_space else []
