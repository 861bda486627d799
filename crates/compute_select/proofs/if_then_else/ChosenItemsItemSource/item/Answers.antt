use Rattle.std.proofs.Common.{[], Some, None, true, false, ap, arith, length, unwrap_or, ◌<◌, ◌∙◌}
use Rattle.std.proofs.lemmas.List.{length-map}
use Rattle.arrow_memory.specs.Rows.{slot}
use Rattle.arrow_column.specs.Column.{slots_of}
use Rattle.compute_select.specs.Selects.{slots_chosen}
use Rattle.compute_select.proofs.ChoiceLemmas.{length-slots}
use Rattle.compute_select.proofs.ItemLemmas.{item-chosen, item-some}
use Rattle.compute_select.proofs.if_then_else.ChosenItemsItemSource.item.Goals as goal

pub get-requires : goal.get-requires
get-requires g c = omega (
  arith,
  c.requires,
  length-map (slots_chosen c.args.self.now.predicate.now c.args.self.now.lhs.now c.args.self.now.rhs.now)
      (λ item. unwrap_or item []),
  length-slots c.args.self.now.predicate.now.rows c.args.self.now.lhs.now.rows c.args.self.now.rhs.now.rows,
)

pub shown_item-requires : goal.shown_item-requires
shown_item-requires g c = omega (
  arith,
  c.requires,
  length-map (slots_chosen c.args.self.now.predicate.now c.args.self.now.lhs.now c.args.self.now.rhs.now)
      (λ item. unwrap_or item []),
  length-slots c.args.self.now.predicate.now.rows c.args.self.now.lhs.now.rows c.args.self.now.rhs.now.rows,
)

pub shown_item-requires-in-Some-false : goal.shown_item-requires-in-Some-false
shown_item-requires-in-Some-false g c = omega (
  arith,
  c.requires,
  length-map (slots_chosen c.args.self.now.predicate.now c.args.self.now.lhs.now c.args.self.now.rhs.now)
      (λ item. unwrap_or item []),
  length-slots c.args.self.now.predicate.now.rows c.args.self.now.lhs.now.rows c.args.self.now.rhs.now.rows,
)

pub returns-in-Some-true-clause-value : goal.returns-in-Some-true-clause-value
returns-in-Some-true-clause-value g c =
    let rhs_low : c.args.i < length (slots_of c.args.self.now.rhs.now) = omega (
      arith,
      c.requires,
      length-map (slots_chosen c.args.self.now.predicate.now c.args.self.now.lhs.now c.args.self.now.rhs.now)
          (λ item. unwrap_or item []),
      length-slots c.args.self.now.predicate.now.rows c.args.self.now.lhs.now.rows c.args.self.now.rhs.now.rows,
      length-map c.args.self.now.rhs.now.rows slot,
    ) in
    item-chosen (slots_of c.args.self.now.predicate.now) (slots_of c.args.self.now.lhs.now)
    (slots_of c.args.self.now.rhs.now) c.args.i (Some true) c.shown_item.result.now _
    (c.in-Some-true.ensures ∙ ap (λ b. Some (Some b)) c.in-Some-true.field-0-test) c.shown_item.ensures.value
    (item-some (slots_of c.args.self.now.rhs.now) c.args.i rhs_low)

pub returns-in-Some-false-clause-value : goal.returns-in-Some-false-clause-value
returns-in-Some-false-clause-value g c =
    let lhs_low : c.args.i < length (slots_of c.args.self.now.lhs.now) = omega (
      arith,
      c.requires,
      length-map (slots_chosen c.args.self.now.predicate.now c.args.self.now.lhs.now c.args.self.now.rhs.now)
          (λ item. unwrap_or item []),
      length-slots c.args.self.now.predicate.now.rows c.args.self.now.lhs.now.rows c.args.self.now.rhs.now.rows,
      length-map c.args.self.now.lhs.now.rows slot,
    ) in
    item-chosen (slots_of c.args.self.now.predicate.now) (slots_of c.args.self.now.lhs.now)
    (slots_of c.args.self.now.rhs.now) c.args.i (Some false) _ c.shown_item-in-Some-false.result.now
    (c.in-Some-false.ensures ∙ ap (λ b. Some (Some b)) c.in-Some-false.field-0-test)
    (item-some (slots_of c.args.self.now.lhs.now) c.args.i lhs_low) c.shown_item-in-Some-false.ensures.value

pub returns-in-None-clause-value : goal.returns-in-None-clause-value
returns-in-None-clause-value g c =
    let lhs_low : c.args.i < length (slots_of c.args.self.now.lhs.now) = omega (
      arith,
      c.requires,
      length-map (slots_chosen c.args.self.now.predicate.now c.args.self.now.lhs.now c.args.self.now.rhs.now)
          (λ item. unwrap_or item []),
      length-slots c.args.self.now.predicate.now.rows c.args.self.now.lhs.now.rows c.args.self.now.rhs.now.rows,
      length-map c.args.self.now.lhs.now.rows slot,
    ) in
    let rhs_low : c.args.i < length (slots_of c.args.self.now.rhs.now) = omega (
      arith,
      c.requires,
      length-map (slots_chosen c.args.self.now.predicate.now c.args.self.now.lhs.now c.args.self.now.rhs.now)
          (λ item. unwrap_or item []),
      length-slots c.args.self.now.predicate.now.rows c.args.self.now.lhs.now.rows c.args.self.now.rhs.now.rows,
      length-map c.args.self.now.rhs.now.rows slot,
    ) in
    item-chosen (slots_of c.args.self.now.predicate.now) (slots_of c.args.self.now.lhs.now)
    (slots_of c.args.self.now.rhs.now) c.args.i None _ _ c.in-None.ensures
    (item-some (slots_of c.args.self.now.lhs.now) c.args.i lhs_low)
    (item-some (slots_of c.args.self.now.rhs.now) c.args.i rhs_low)
