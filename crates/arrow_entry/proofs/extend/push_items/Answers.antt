use Rattle.std.proofs.Common.{rules, ◌≡◌, Some, map, ap, [], ◌∷◌}
use Rattle.std.proofs.lemmas.List.{nil_from_length}
use Rattle.arrow_model.specs.Change.{slot_over}
use Rattle.arrow_model.specs.Value.{types}
use Rattle.arrow_model.specs.Item.{stored_item}
use Rattle.arrow_entry.specs.Entry.{value_of}
use Rattle.arrow_entry.proofs.Grown.{rest-taken, rest-none, rest-refused}
use Rattle.arrow_entry.proofs.extend.push_items.Goals as goal

pub loop-item-preserved : goal.loop-item-preserved
loop-item-preserved g c =
    let split : c.loop-item.rest.now ≡ c.in-Some.item.now ∷ c.in-Some.others.now = search rules in (
      search rules,
      search rules,
      rest-taken (types g.T.NativeType.zero g.T.NativeType.PRIMITIVE g.O.Offset.most g.O.Offset.IS_LARGE)
          (value_of c.args.entry.now) (map Some (map stored_item c.args.items.now))
          (value_of c.loop-item.entry) (value_of c.push_item.new.self)
          (map Some (map stored_item c.loop-item.rest.now)) (map Some (map stored_item c.in-Some.others.now))
          (Some (stored_item c.in-Some.item.now))
          (ap (λ xs. map Some (map stored_item xs)) split) c.in-Ok.ensures.ok c.loop-item.invariant.2,
    )

pub returns-clause-ok : goal.returns-clause-ok
returns-clause-ok g c =
    let split : c.loop-item.rest.now ≡ [] = nil_from_length c.loop-item.rest.now (search rules) in
    rest-none (types g.T.NativeType.zero g.T.NativeType.PRIMITIVE g.O.Offset.most g.O.Offset.IS_LARGE)
    (value_of c.args.entry.now) (map Some (map stored_item c.args.items.now))
    (value_of c.loop-item.entry) (map Some (map stored_item c.loop-item.rest.now))
    (ap (λ xs. map Some (map stored_item xs)) split) c.loop-item.invariant.2

pub returns-in-Err-clause-err : goal.returns-in-Err-clause-err
returns-in-Err-clause-err g c =
    let split : c.loop-item.rest.now ≡ c.in-Some.item.now ∷ c.in-Some.others.now = search rules in
    let known = types g.T.NativeType.zero g.T.NativeType.PRIMITIVE g.O.Offset.most g.O.Offset.IS_LARGE in
    let refused = c.in-Err.ensures.err in (
      slot_over known (value_of c.loop-item.entry) (Some (stored_item c.in-Some.item.now)),
      refused.0,
      rw (refused.0, refused.1)
          (rest-refused known (value_of c.args.entry.now) (map Some (map stored_item c.args.items.now))
          (value_of c.loop-item.entry) (map Some (map stored_item c.loop-item.rest.now))
          (map Some (map stored_item c.in-Some.others.now)) (Some (stored_item c.in-Some.item.now))
          (ap (λ xs. map Some (map stored_item xs)) split) c.loop-item.invariant.2),
    )
