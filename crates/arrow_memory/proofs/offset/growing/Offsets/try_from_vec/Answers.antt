use Rattle.std.proofs.Common.{◌≡◌, map, None, refl, sym, ap, ◌∙◌}
use Rattle.arrow_memory.specs.Offsets.{first_fault}
use Rattle.arrow_memory.proofs.OffsetLemmas.{faultless-whole, faultless-legal}
use Rattle.arrow_memory.proofs.offset.growing.Offsets.try_from_vec.Goals as goal

pub invariant_of-result : goal.invariant_of-result
invariant_of-result g c =
    let number = g.O.Offset.number in
    let told = (c.in-None.ensures).text in
    let calm : first_fault (map number c.args.offsets.items) ≡ None =
    ap (λ xs. first_fault (map number xs)) (sym c.deref.ensures.value) ∙ sym told in
    record {
      whole = faultless-whole _ calm;
      legal = faultless-legal _ calm;
      within = rw c.deref.ensures.value at ((c.in-None.ensures).within refl);
    }
