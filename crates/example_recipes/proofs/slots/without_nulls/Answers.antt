use Rattle.std.proofs.Common.{◌≡◌, ◌∙◌, ◌++◌, ◌∷◌, [], pos, ap, ap₂, map, sym}
use Rattle.std.proofs.lemmas.List.{map-append}
use Rattle.dethrugn.specs.Column.{slots_of}
use Rattle.dethrugn.specs.SlotOrder.{first_slots}
use Rattle.example_recipes.specs.Slots.{zero_for_null}
use Rattle.example_recipes.proofs.slots.without_nulls.Goals as goal

pub loop-i-preserved : goal.loop-i-preserved
loop-i-preserved c =
    ap slots_of c.in_ok-push.ensures.ok
    ∙ c.appended_slots.ensures.one (pos 0) c.loop-i.builder c.zero_for_null.result
    ∙ ap₂ (λ done slot. done ++ slot ∷ []) c.loop-i.invariant c.zero_for_null.ensures
    ∙ sym (map-append zero_for_null (first_slots c.args.array.now c.loop-i.i) (c.get.result ∷ []))
    ∙ ap (map zero_for_null) (sym (c.slots_in_order.ensures.next c.args.array.now c.loop-i.i c.get.result c.get.ensures))
