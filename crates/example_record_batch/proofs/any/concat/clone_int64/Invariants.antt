use Rattle.std.proofs.Common.{◌≡◌, map, take}
use Rattle.example_record_batch.specs.declared.any.AnyArray.TheVariants.{Int64}
use Rattle.example_record_batch.proofs.any.concat.clone_int64.Given as goal

abbrev pub invariant-loop-array : goal.invariant-loop-array
invariant-loop-array l = map Int64 l.columns.items ≡ take l.array-index l.arrays
