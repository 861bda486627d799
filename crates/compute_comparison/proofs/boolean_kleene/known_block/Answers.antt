use Rattle.std.proofs.Common.{◌∙◌, arith}
use Rattle.std.proofs.lemmas.List.{length-set}
use Rattle.compute_comparison.proofs.KleeneLemmas.{known-lane, known-lanes}
use Rattle.compute_comparison.proofs.boolean_kleene.known_block.Goals as goal

pub loop-i-preserved : goal.loop-i-preserved
loop-i-preserved g c = record {
  known = known-lane g.K.KleeneOperation.table c.args.left.values c.args.left.marks c.args.right.values
      c.args.right.marks c.loop-i.known c.loop-i.i c.known.result (omega (arith, c.loop-i.invariant.len))
      c.loop-i.invariant.known c.known.ensures;
  len = length-set c.loop-i.known c.loop-i.i c.known.result ∙ c.loop-i.invariant.len;
}

pub returns : goal.returns
returns g c k low = known-lanes g.K.KleeneOperation.table c.args.left.values c.args.left.marks c.args.right.values
    c.args.right.marks c.loop-i.known k c.loop-i.i low (omega (arith, c.loop-i-test.false)) c.loop-i.invariant.known
