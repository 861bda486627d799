use Rattle.arrow_commands.proofs.convert.ThawChangesEntry.run.Goals as goal

pub returns : goal.returns
returns g c = rw (← c.take.ensures.value, c.replace.ensures) c.thawed-after.ensures
