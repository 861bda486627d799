use Rattle.std.proofs.Common.{◌∙◌, ap, not}
use Rattle.compute_base.proofs.CallerLemmas.{zero-number}
use Rattle.compute_cast.proofs.booleans.is_nonzero.Goals as goal

pub returns : goal.returns
returns g c =
    let number = g.T.NativeArithmetics.number in
    let value = c.args.value in
    c.ne.ensures ∙ ap (λ other. not (g.T.PartialEq.eq value other)) c.default.ensures
    ∙ ap not (zero-number number g.T.NativeType.zero value (g.T.PartialEq.eq value g.T.NativeType.zero)
    g.met.T.NativeArithmetics.zero_number g.met.T.NativeArithmetics.same_number
    (g.met.T.NativeType.same value g.T.NativeType.zero))
