use Rattle.std.proofs.Common.{arith}
use Rattle.std.proofs.lemmas.List.{length-map}
use Rattle.arrow_memory.specs.Rows.{slot}
use Rattle.arrow_column.specs.Column.{slots_of}
use Rattle.compute_cast.specs.Decimals.{value_of_slot}
use Rattle.compute_cast.proofs.bytes_to.ParsedSlotsSlotSource.len.Goals as goal

pub returns : goal.returns
returns g c = omega (
  arith,
  c.len.ensures,
  length-map (slots_of c.args.self.now.array.now) (value_of_slot g.T.NativeArithmetics.fits g.T.NativeArithmetics.wrap),
  length-map c.args.self.now.array.now.rows slot,
)
