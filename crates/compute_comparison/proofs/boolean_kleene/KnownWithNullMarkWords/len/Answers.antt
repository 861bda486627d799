use Rattle.std.proofs.Common.{◌∙◌, sym}
use Rattle.compute_comparison.proofs.ScalarLemmas.{length-with_null}
use Rattle.compute_comparison.proofs.boolean_kleene.KnownWithNullMarkWords.len.Goals as goal

pub returns : goal.returns
returns g c = c.len.ensures ∙ sym (length-with_null g.K.KleeneOperation.table c.args.self.now.array.now)
