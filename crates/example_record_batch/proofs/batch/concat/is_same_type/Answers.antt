use Rattle.std.proofs.Common.{ap, sym, ◌∙◌}
use Rattle.dethrugn.specs.Types.{physical_type}
use Rattle.example_record_batch.proofs.ConcatLemmas.{same-named}
use Rattle.example_record_batch.proofs.batch.concat.is_same_type.Goals as goal

pub returns-then-eq-clause-same : goal.returns-then-eq-clause-same
returns-then-eq-clause-same c = same-named c.args.field.now c.args.other.now c.eq-then-eq.result _ _ c.if-eq.ensures
    c.eq-then-eq.ensures c.data_type.ensures.value c.data_type-then-eq.ensures.value

pub returns-then-eq-clause-kind : goal.returns-then-eq-clause-kind
returns-then-eq-clause-kind c = λ same.
    let types = (same-named c.args.field.now c.args.other.now c.eq-then-eq.result _ _ c.if-eq.ensures
    c.eq-then-eq.ensures c.data_type.ensures.value c.data_type-then-eq.ensures.value).0 same in
    sym c.data_type.ensures.right ∙ ap (λ column. physical_type column.data_type) types
    ∙ c.data_type-then-eq.ensures.right
