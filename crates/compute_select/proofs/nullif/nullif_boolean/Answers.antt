use Rattle.std.proofs.Common.{◌∙◌, ap}
use mathlib.Core.Bool.{beq}
use Rattle.std.specs.Ordering.{bool_cmp, is_eq}
use Rattle.arrow_column.specs.Column.{slots_of}
use Rattle.compute_select.specs.Selects.{mask_shown, slots_null_if}
use Rattle.compute_select.proofs.NullLemmas.{booleans-agree, differing-as, stores-differing}
use Rattle.compute_select.proofs.ShownLemmas.{fits-rows, masked-shown}
use Rattle.compute_select.proofs.nullif.nullif_boolean.Goals as goal

pub with_validity-requires : goal.with_validity-requires
with_validity-requires c =
    let lhs = c.args.lhs.now in
    let rhs = c.args.rhs.now in
    let same = differing-as (λ x y. is_eq (bool_cmp x y)) beq booleans-agree (slots_of lhs) (slots_of rhs) in
    fits-rows lhs _ (slots_null_if beq (slots_of lhs) (slots_of rhs)) _ c.in_ok-clone.ensures.ok
    (c.in_ok-mask.ensures.ok ∙ ap mask_shown same) (stores-differing beq lhs.rows rhs.rows c.requires)

pub returns-clause-ok : goal.returns-clause-ok
returns-clause-ok c =
    let lhs = c.args.lhs.now in
    let rhs = c.args.rhs.now in
    let same = differing-as (λ x y. is_eq (bool_cmp x y)) beq booleans-agree (slots_of lhs) (slots_of rhs) in
    masked-shown lhs _ _ (slots_null_if beq (slots_of lhs) (slots_of rhs)) _ c.in_ok-clone.ensures.ok
    c.with_validity.ensures (c.in_ok-mask.ensures.ok ∙ ap mask_shown same)
    (stores-differing beq lhs.rows rhs.rows c.requires)
