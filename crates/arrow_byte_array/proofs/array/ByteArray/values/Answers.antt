use Rattle.std.proofs.Common.{subst}
use Rattle.arrow_bytes.specs.Kinds.{AreItems}
use Rattle.arrow_byte_array.proofs.array.ByteArray.values.Goals as goal

pub returns-clause-items : goal.returns-clause-items
returns-clause-items g c =
    rw (← c.self.view_is) (subst (AreItems g.K.ByteKind.is_text) c.values.ensures.values c.bytes.ensures.items)
