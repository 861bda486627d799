-- Lemmas about the parts of a column of bytes.
use Rattle.std.proofs.Common.{◌≡◌, Bool, [], None, length, subst, sym, ap, ◌∙◌, arith}
use Rattle.arrow_memory.specs.Offsets.{last_of}
use Rattle.arrow_memory.specs.Rows.{FitsMask}
use Rattle.arrow_column.specs.Column.{IsColumn, mask_of, stored_values}
use Rattle.arrow_column.proofs.CallerLemmas.{parts_fit}
use Rattle.arrow_check.specs.Pieces.{items_of}
use Rattle.arrow_bytes.specs.Column.{ByteColumn, byte_column, bytes_held, offsets_held}
use Rattle.arrow_bytes.specs.Kinds.{AreItems}
use Rattle.arrow_bytes.proofs.CallerLemmas.{column-back, end-back, items-back}

-- they cut its stored values out again
pub items-held : (c : ByteColumn) → items_of (offsets_held c) (bytes_held c) ≡ stored_values c
items-held c = items-back c.around.lead (stored_values c) c.around.tail

pub are-items : (text : Bool) (c : ByteColumn) → AreItems text (stored_values c)
    → AreItems text (items_of (offsets_held c) (bytes_held c))
are-items text c items = subst (AreItems text) (sym (items-held c)) items

pub fits-mask : (c : ByteColumn) → FitsMask (items_of (offsets_held c) (bytes_held c)) (mask_of c)
fits-mask c = subst (λ items. FitsMask items (mask_of c)) (sym (items-held c)) (parts_fit c)

-- with no byte behind the slots, the last offset is the number of bytes
pub at-end : (c : ByteColumn) → c.around.tail ≡ [] → last_of (offsets_held c) ≡ length (bytes_held c)
at-end c none = omega (arith, end-back c.around.lead (stored_values c) c.around.tail, ap length none)

-- a column that holds no mask
pub column-bare : (c : ByteColumn) → IsColumn c → mask_of c ≡ None
    → byte_column c.data_type (offsets_held c) (bytes_held c) None ≡ c
column-bare c is_column bare =
    ap (byte_column c.data_type (offsets_held c) (bytes_held c)) (sym bare) ∙ column-back c is_column
