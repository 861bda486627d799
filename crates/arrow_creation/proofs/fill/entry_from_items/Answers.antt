use Rattle.std.proofs.Common.{ap, map, refl, Some, ◌∙◌}
use Rattle.arrow_entry.specs.Entry.{value_of}
use Rattle.arrow_model.specs.Change.{empty_value}
use Rattle.arrow_model.specs.Item.{stored_item}
use Rattle.arrow_model.specs.Kind.{is_frozen, shape}
use Rattle.arrow_model.specs.Step.{ItemsFill}
use Rattle.arrow_model.specs.Value.{types}
use Rattle.arrow_creation.proofs.FilledLemmas.{finish-built, items-done, items-refused}
use Rattle.arrow_creation.proofs.fill.entry_from_items.Goals as goal

pub returns : goal.returns
returns g c =
    let known = types g.T.NativeType.zero g.T.NativeType.PRIMITIVE g.O.Offset.most g.O.Offset.IS_LARGE in
    let s = shape c.args.kind in
    let items = map stored_item c.args.items.now in
    let v = value_of c.in_ok-made.made in
    let w = value_of c.push_items-filled.new.entry in
    let start = c.in_ok-made.ensures.ok ∙ ap (empty_value known) c.builder_kind.ensures in
    finish-built known v w (map Some items) (ItemsFill known s items) (is_frozen s) c.push_items-filled.result c.finish.result
    c.push_items-filled.ensures.ok c.push_items-filled.ensures.err
    c.finish.ensures.ok c.finish.ensures.stopped c.finish.ensures.err
    (items-done known s.value_kind s.group items v w start)
    (λ over. items-refused known s.value_kind s.group items v over (Some w) start) refl
