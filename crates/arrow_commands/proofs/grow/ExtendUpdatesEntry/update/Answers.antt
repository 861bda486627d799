use Rattle.std.proofs.Common.{◌≡◌, true, false, map, Some, refl, subst, sym}
use Rattle.std.specs.List.{list_all}
use Rattle.arrow_types.specs.Types.{refusal}
use Rattle.arrow_entry.specs.Entry.{value_of}
use Rattle.arrow_model.specs.Answer.{done, refused}
use Rattle.arrow_model.specs.Item.{slot_fits, stored_slot}
use Rattle.arrow_model.specs.Kind.{Shape}
use Rattle.arrow_model.specs.Value.{types}
use Rattle.arrow_commands.proofs.Extended.{extended, unfit}
use Rattle.arrow_commands.proofs.grow.ExtendUpdatesEntry.update.Goals as goal

pub returns-then-not-slots_fit : goal.returns-then-not-slots_fit
returns-then-not-slots_fit g c =
    let xs = map stored_slot c.args.self.now.0.now in
    let v = value_of c.args.entry.now in
    unfit (types g.T.NativeType.zero g.T.NativeType.PRIMITIVE g.O.Offset.most g.O.Offset.IS_LARGE) (Some v) v xs refl
    (sym c.if-not-is_builder_with_nulls.ensures)
    (subst (λ (s : Shape). list_all (slot_fits s.value_kind) xs ≡ false) c.kind.ensures
    (sym c.if-not-slots_fit.ensures))

pub returns-in-Ok : goal.returns-in-Ok
returns-in-Ok g c =
    let xs = map stored_slot c.args.self.now.0.now in
    let v = value_of c.args.entry.now in
    extended (types g.T.NativeType.zero g.T.NativeType.PRIMITIVE g.O.Offset.most g.O.Offset.IS_LARGE) (Some v) v xs refl
    (sym c.if-not-is_builder_with_nulls.ensures)
    (subst (λ (s : Shape). list_all (slot_fits s.value_kind) xs ≡ true) c.kind.ensures (sym c.if-not-slots_fit.ensures))
    done (Some (value_of c.push_slots.new.entry)) c.in-Ok.ensures.ok

pub returns-in-Err : goal.returns-in-Err
returns-in-Err g c =
    let xs = map stored_slot c.args.self.now.0.now in
    let v = value_of c.args.entry.now in
    extended (types g.T.NativeType.zero g.T.NativeType.PRIMITIVE g.O.Offset.most g.O.Offset.IS_LARGE) (Some v) v xs refl
    (sym c.if-not-is_builder_with_nulls.ensures)
    (subst (λ (s : Shape). list_all (slot_fits s.value_kind) xs ≡ true) c.kind.ensures (sym c.if-not-slots_fit.ensures))
    (refused (refusal c.in-Err.refused)) (Some (value_of c.push_slots.new.entry)) c.in-Err.ensures.err.2
