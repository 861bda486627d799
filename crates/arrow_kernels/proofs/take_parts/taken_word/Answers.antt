use Rattle.std.proofs.Common.{◌+◌, ◌*◌, ◌%◌, ◌^◌, ◌<◌, ◌==◌, Some, ap, arith, refl, sym, ◌∙◌}
use Rattle.arrow_kernels.proofs.BitLemmas.{more-bits, more-small, number-mark, number-small}
use Rattle.arrow_kernels.proofs.ChoiceLemmas.{key-place, keys-grown}
use Rattle.arrow_kernels.proofs.take_parts.taken_word.Goals as goal

pub loop-key-preserved : goal.loop-key-preserved
loop-key-preserved g c =
    let number = g.K.IndexKey.number in
    let marks = c.args.marks.now in
    let word = c.loop-key.word in
    let count = c.loop-key.count in
    let i = c.loop-key.invariant in
    let bit = c.from.result in
    let new = word + bit * 2 ^ count % 2 ^ 64 in
    let single = number-small c.get_bit-mark.result bit c.from.ensures in
    let room : count < 64 = omega (arith, i.counted, c.loop-key-test.true, c.requires.few) in
    let read = c.get_bit-mark.ensures ∙ ap Some (sym (number-mark c.get_bit-mark.result bit c.from.ensures)) in
    let found = key-place marks (number c.key-item.result) c.place_of.result (bit == 1) c.place_of.ensures.place read in
    record {
      counted = omega (arith, i.counted);
      small = more-small word count bit new i.small single room refl;
      so_far = keys-grown number c.args.keys.now marks c.loop-key.key-index c.key-item.result (bit == 1) _ _
          c.loop-key-test.true c.key-item.is found i.so_far (more-bits word count bit new i.small single room refl);
    }
