use Rattle.arrow_commands.proofs.convert.NullableChangesEntry.run.Goals as goal

pub returns : goal.returns
returns g c = rw (← c.take.ensures.value, c.replace.ensures) c.with_nulls-after.ensures
