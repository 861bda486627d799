use Rattle.example_record_batch.specs.declared.any.AnyArray.TheVariants.{Binary, Boolean, Int64, Utf8}
use Rattle.example_record_batch.proofs.GroupLemmas.{ok-rows}
use Rattle.example_record_batch.proofs.any.AnyArray.group.Goals as goal

pub returns-in-Int64-clause-rows : goal.returns-in-Int64-clause-rows
returns-in-Int64-clause-rows g c = ok-rows (λ groups. groups.first) (λ groups. groups.indices) c.args.self.now
    (Int64 c.in-Int64.array) c.group_primitive_with.result c.in-Int64.is c.group_primitive_with.ensures.ok

pub returns-in-Boolean-clause-rows : goal.returns-in-Boolean-clause-rows
returns-in-Boolean-clause-rows g c = ok-rows (λ groups. groups.first) (λ groups. groups.indices) c.args.self.now
    (Boolean c.in-Boolean.array) c.group_boolean_with.result c.in-Boolean.is c.group_boolean_with.ensures.ok

pub returns-in-Binary-clause-rows : goal.returns-in-Binary-clause-rows
returns-in-Binary-clause-rows g c = ok-rows (λ groups. groups.first) (λ groups. groups.indices) c.args.self.now
    (Binary c.in-Binary.array) c.group_binary_with.result c.in-Binary.is c.group_binary_with.ensures.ok

pub returns-in-Utf8-clause-rows : goal.returns-in-Utf8-clause-rows
returns-in-Utf8-clause-rows g c = ok-rows (λ groups. groups.first) (λ groups. groups.indices) c.args.self.now
    (Utf8 c.in-Utf8.array) c.group_utf8_with.result c.in-Utf8.is c.group_utf8_with.ensures.ok
