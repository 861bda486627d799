use Rattle.std.proofs.Common.{rules, ◌≡◌, map, ap, [], ◌∷◌, subst, sym, IsTrue}
use Rattle.std.specs.List.{list_all}
use Rattle.std.proofs.lemmas.List.{nil_from_length}
use Rattle.std.proofs.lemmas.Bool.{and_parts}
use Rattle.arrow_model.specs.Change.{slot_over}
use Rattle.arrow_model.specs.Value.{Value, types}
use Rattle.arrow_model.specs.Kind.{Shape}
use Rattle.arrow_model.specs.Item.{slot_fits, stored_slot}
use Rattle.arrow_entry.specs.Entry.{value_of}
use Rattle.arrow_entry.proofs.Grown.{rest-taken, rest-none, rest-refused}
use Rattle.arrow_entry.proofs.extend.push_slots.Goals as goal

pub loop-slot-preserved : goal.loop-slot-preserved
loop-slot-preserved g c =
    let split : c.loop-slot.rest.now ≡ c.in-Some.slot.now ∷ c.in-Some.others.now = search rules in (
      search rules,
      subst (λ (s : Shape). IsTrue (list_all (slot_fits s.value_kind) (map stored_slot c.in-Some.others.now)))
          (sym (let same : (value_of c.push_slot.new.self).shape
          ≡ (value_of c.loop-slot.entry).shape = ap (λ (v : Value g.row.T.Denot). v.shape) c.in-Ok.ensures.ok.1
          in same))
          (and_parts (slot_fits (value_of c.loop-slot.entry).shape.value_kind (stored_slot c.in-Some.slot.now))
          (list_all (slot_fits (value_of c.loop-slot.entry).shape.value_kind)
          (map stored_slot c.in-Some.others.now))
          (subst (λ xs. IsTrue (list_all (slot_fits (value_of c.loop-slot.entry).shape.value_kind)
          (map stored_slot xs))) split c.loop-slot.invariant.1)).1,
      rest-taken (types g.T.NativeType.zero g.T.NativeType.PRIMITIVE g.O.Offset.most g.O.Offset.IS_LARGE)
          (value_of c.args.entry.now) (map stored_slot c.args.slots.now)
          (value_of c.loop-slot.entry) (value_of c.push_slot.new.self) (map stored_slot c.loop-slot.rest.now)
          (map stored_slot c.in-Some.others.now) (stored_slot c.in-Some.slot.now)
          (ap (map stored_slot) split) c.in-Ok.ensures.ok c.loop-slot.invariant.2,
    )

pub returns-clause-ok : goal.returns-clause-ok
returns-clause-ok g c =
    let split : c.loop-slot.rest.now ≡ [] = nil_from_length c.loop-slot.rest.now (search rules) in
    rest-none (types g.T.NativeType.zero g.T.NativeType.PRIMITIVE g.O.Offset.most g.O.Offset.IS_LARGE)
    (value_of c.args.entry.now) (map stored_slot c.args.slots.now)
    (value_of c.loop-slot.entry) (map stored_slot c.loop-slot.rest.now) (ap (map stored_slot) split)
    c.loop-slot.invariant.2

pub returns-in-Err-clause-err : goal.returns-in-Err-clause-err
returns-in-Err-clause-err g c =
    let split : c.loop-slot.rest.now ≡ c.in-Some.slot.now ∷ c.in-Some.others.now = search rules in
    let known = types g.T.NativeType.zero g.T.NativeType.PRIMITIVE g.O.Offset.most g.O.Offset.IS_LARGE in
    let refused = c.in-Err.ensures.err in (
      slot_over known (value_of c.loop-slot.entry) (stored_slot c.in-Some.slot.now),
      refused.0,
      rw (refused.0, refused.1)
          (rest-refused known (value_of c.args.entry.now) (map stored_slot c.args.slots.now)
          (value_of c.loop-slot.entry) (map stored_slot c.loop-slot.rest.now)
          (map stored_slot c.in-Some.others.now) (stored_slot c.in-Some.slot.now)
          (ap (map stored_slot) split) c.loop-slot.invariant.2),
    )
