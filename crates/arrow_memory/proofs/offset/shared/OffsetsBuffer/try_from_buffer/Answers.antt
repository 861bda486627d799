use Rattle.std.proofs.Common.{◌≡◌, map, None, refl, sym, ap, ◌∙◌}
use Rattle.arrow_memory.specs.Offsets.{first_fault}
use Rattle.arrow_memory.proofs.OffsetLemmas.{faultless-whole, faultless-legal}
use Rattle.arrow_memory.proofs.offset.shared.OffsetsBuffer.try_from_buffer.Goals as goal

pub invariant_of-result : goal.invariant_of-result
invariant_of-result g c =
    let number = g.O.Offset.number in
    let calm : first_fault (map number c.args.offsets) ≡ None =
    ap (λ xs. first_fault (map number xs)) (sym c.as_slice.ensures) ∙ sym (c.in-None.ensures).text in
    record {
      whole = faultless-whole _ calm;
      legal = faultless-legal _ calm;
      within = rw c.as_slice.ensures at ((c.in-None.ensures).within refl);
    }
