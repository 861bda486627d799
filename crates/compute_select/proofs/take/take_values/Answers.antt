use Rattle.std.proofs.Common.{arith, unwrap_or, ◌∙◌}
use Rattle.arrow_bytes.specs.Selection.{at_key}
use Rattle.compute_select.proofs.KeyLemmas.{next-mapped}
use Rattle.compute_select.proofs.take.take_values.Goals as goal

pub loop-key-preserved : goal.loop-key-preserved
loop-key-preserved g c = record {
  so_far = c.push_reserved.ensures.items
      ∙ next-mapped (λ key. unwrap_or (at_key c.args.values.now (g.K.IndexKey.number key)) g.T.NativeType.zero)
      c.args.keys.now c.loop-key.taken.items c.loop-key.key-index c.key-item.result c.value_at_key.result
      c.loop-key-test.true c.key-item.is c.loop-key.invariant.so_far c.value_at_key.ensures;
  len = omega (arith, c.loop-key.invariant.len, c.push_reserved.ensures.len);
  room = omega (arith, c.loop-key.invariant.room, c.push_reserved.ensures.capacity);
}
