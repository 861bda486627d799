use Rattle.arrow_commands.proofs.convert.FreezeChangesEntry.run.Goals as goal

pub returns : goal.returns
returns g c = rw (← c.take.ensures.value, c.replace.ensures) c.freeze_taken-after.ensures
