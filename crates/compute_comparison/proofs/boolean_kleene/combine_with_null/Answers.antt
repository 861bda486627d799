use Rattle.std.proofs.Common.{◌∙◌}
use Rattle.compute_comparison.proofs.ScalarLemmas.{fits-with_null, makes-with-null}
use Rattle.compute_comparison.proofs.boolean_kleene.combine_with_null.Goals as goal

pub new-requires-clause-mask : goal.new-requires-clause-mask
new-requires-clause-mask g c = fits-with_null g.K.KleeneOperation.table c.args.array.now c.in_ok-values.values
    c.in_ok-known.known (c.in_ok-values.ensures.ok ∙ c.values.ensures) c.in_ok-known.ensures.ok

pub returns-clause-ok : goal.returns-clause-ok
returns-clause-ok g c = makes-with-null g.K.KleeneOperation.table g.met.K.KleeneOperation.with_null c.args.array.now
    c.in_ok-values.values c.in_ok-known.known c.new.result (c.in_ok-values.ensures.ok ∙ c.values.ensures)
    c.in_ok-known.ensures.ok c.new.ensures
