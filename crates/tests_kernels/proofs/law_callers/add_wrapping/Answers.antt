use Rattle.std.proofs.Common.{◌+ℤ◌, ◌^◌, subst, sym}
use Rattle.arrow_integers.specs.NativeArithmetics.{DiffersByMultiple}
use Rattle.tests_kernels.proofs.law_callers.add_wrapping.Goals as goal

pub returns : goal.returns
returns g c =
    let number = g.T.NativeArithmetics.number in
    let sum = number c.args.lhs +ℤ number c.args.rhs in
    subst (λ r. DiffersByMultiple (2 ^ g.T.NativeArithmetics.bits) sum (number r)) (sym c.wrapping_add.ensures)
    (c.wrapped_numbers.ensures.differs sum)
