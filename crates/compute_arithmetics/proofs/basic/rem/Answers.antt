use Rattle.std.proofs.Common.{int_rem}
use Rattle.std.proofs.lemmas.Result.{MatchResult-weaker}
use Rattle.arrow_integers.specs.NativeArithmetics.{lift}
use Rattle.compute_arithmetics.proofs.DivisionLemmas.{divides_slots}
use Rattle.compute_arithmetics.proofs.basic.rem.Goals as goal

pub returns-clause-ok : goal.returns-clause-ok
returns-clause-ok g c =
    let make = lift g.T.NativeArithmetics.number g.T.NativeArithmetics.wrap int_rem in
    MatchResult-weaker c.combine.result c.combine.ensures.ok (λ made e. divides_slots g.T.NativeArithmetics.number
    g.T.NativeType.zero make c.args.lhs.now c.args.rhs.now made c.requires.divisors e) (λ _ t. t)
