use Rattle.std.proofs.Common.{arith, refl}
use Rattle.std.proofs.lemmas.Option.{slice_get_read}
use Rattle.arrow_kernels.proofs.ChoiceLemmas.{key-place, keys-grown}
use Rattle.arrow_kernels.proofs.take_parts.take_values.Goals as goal

pub loop-key-preserved : goal.loop-key-preserved
loop-key-preserved g c =
    let number = g.K.IndexKey.number in
    let values = c.args.values.now in
    let x = c.index-values-place_of.result in
    let read = slice_get_read values _ c.place_of.result x refl c.place_of.ensures.within c.index-values-place_of.is in
    let found = key-place values (number c.key-item.result) c.place_of.result x c.place_of.ensures.place read in
    record {
      so_far = keys-grown number c.args.keys.now values c.loop-key.key-index c.key-item.result x _ _
          c.loop-key-test.true c.key-item.is found c.loop-key.invariant.so_far c.push_reserved.ensures.items;
      len = omega (arith, c.loop-key.invariant.len, c.push_reserved.ensures.len);
      room = omega (arith, c.loop-key.invariant.room, c.push_reserved.ensures.capacity);
    }
