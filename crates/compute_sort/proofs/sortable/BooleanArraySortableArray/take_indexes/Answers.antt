use Rattle.std.proofs.Common.{◌<◌, ◌^◌, ◌∙◌, ap, arith, length}
use Rattle.std.proofs.lemmas.Result.{MatchResult-weaker}
use Rattle.arrow_column.specs.Column.{slots_of}
use Rattle.compute_sort.proofs.TakeLemmas.{all-fit, taken-slots}
use Rattle.compute_sort.proofs.sortable.BooleanArraySortableArray.take_indexes.Goals as goal

pub returns-clause-err : goal.returns-clause-err
returns-clause-err c =
    let small : length c.args.self.now.rows < 2 ^ 64 = omega (arith, c.len.ensures, c.len.type_inv) in
    MatchResult-weaker c.take_boolean.result c.take_boolean.ensures.err (λ _ t. t)
    (λ e m. m (all-fit c.args.self.now c.args.indexes.now small c.requires))

pub returns-clause-slots : goal.returns-clause-slots
returns-clause-slots c =
    let small : length c.args.self.now.rows < 2 ^ 64 = omega (arith, c.len.ensures, c.len.type_inv) in
    MatchResult-weaker c.take_boolean.result c.take_boolean.ensures.ok
    (λ made same. ap slots_of same ∙ taken-slots tt c.args.self.now c.args.indexes.now small c.requires) (λ _ t. t)
