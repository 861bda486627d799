use Rattle.std.proofs.Common.{length}
use Rattle.std.specs.List.{zip}
use Rattle.dethrugn.specs.Column.{slots_of}
use Rattle.example_record_batch.proofs.OverflowLemmas.{SumsTo}
use Rattle.example_record_batch.proofs.any.overflow.add_numbers.Given as goal

abbrev pub invariant-loop-i : goal.invariant-loop-i
invariant-loop-i l = SumsTo (zip l.indices (slots_of l.array)) l.i (length l.fn.sums) l.sums
