use Rattle.std.proofs.Common.{◌≡◌, ◌<◌, ◌^◌, arith, rules}
use Rattle.std.specs.Prelude.{IfOk}
use Rattle.example_record_batch.specs.AnyArrays.{slot_count}
use Rattle.example_record_batch.specs.Taking.{any_taken}
use Rattle.example_record_batch.proofs.GroupLemmas.{ok-count}
use Rattle.example_record_batch.proofs.any.AnyArray.group_keys.Goals as goal

pub returns-clause-count : goal.returns-clause-count
returns-clause-count c =
    let array = c.args.self.now in
    let small : slot_count array < 2 ^ 64 = omega arith in
    let ok : IfOk c.take.result (λ keys. keys ≡ any_taken array c.args.first.now) =
    search rules in
    ok-count array c.args.first.now c.take.result small c.requires ok
