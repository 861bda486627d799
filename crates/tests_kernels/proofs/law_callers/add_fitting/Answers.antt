use Rattle.std.proofs.Common.{◌+ℤ◌, ◌∙◌, ap}
use Rattle.tests_kernels.proofs.law_callers.add_fitting.Goals as goal

pub returns : goal.returns
returns g c =
    let number = g.T.NativeArithmetics.number in
    ap number c.saturating_add.ensures
    ∙ c.nearest_numbers.ensures.same (number c.args.lhs +ℤ number c.args.rhs) c.requires
