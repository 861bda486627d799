use Rattle.std.proofs.Common.{arith}
use Rattle.std.proofs.lemmas.List.{length-map}
use Rattle.arrow_memory.specs.Rows.{slot}
use Rattle.compute_group.proofs.keys.ArraySlotsKeys.count.Goals as goal

pub returns : goal.returns
returns g c =
    let column = g.A.Array.column c.args.self.now.array.now in
    omega (arith, c.len.ensures, length-map column.rows slot)
