use Rattle.arrow_byte_array.proofs.builder.MutableByteArray.extend_from_array.Goals as goal

pub returns-clause-ok : goal.returns-clause-ok
returns-clause-ok g c = rw (← c.self.view_is, ← c.array.view_is) c.extend_from_frozen.ensures.ok
