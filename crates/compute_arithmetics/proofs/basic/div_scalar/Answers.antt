use Rattle.std.proofs.Common.{int_div}
use Rattle.std.proofs.lemmas.Result.{MatchResult-weaker}
use Rattle.arrow_integers.specs.NativeArithmetics.{lift}
use Rattle.compute_arithmetics.proofs.DivisionLemmas.{divides_by}
use Rattle.compute_arithmetics.proofs.basic.div_scalar.Goals as goal

pub returns-clause-ok : goal.returns-clause-ok
returns-clause-ok g c =
    let make = lift g.T.NativeArithmetics.number g.T.NativeArithmetics.wrap int_div in
    MatchResult-weaker c.combine_scalar.result c.combine_scalar.ensures.ok (λ made e. divides_by
    g.T.NativeArithmetics.number g.T.NativeType.zero make c.args.lhs.now c.args.rhs made c.requires e) (λ _ t. t)
