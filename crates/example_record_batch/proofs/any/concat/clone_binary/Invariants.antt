use Rattle.std.proofs.Common.{◌≡◌, map, take}
use Rattle.example_record_batch.specs.declared.any.AnyArray.TheVariants.{Binary}
use Rattle.example_record_batch.proofs.any.concat.clone_binary.Given as goal

abbrev pub invariant-loop-array : goal.invariant-loop-array
invariant-loop-array l = map Binary l.columns.items ≡ take l.array-index l.arrays
