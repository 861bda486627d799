use Rattle.std.proofs.Common.{◌≡◌, ◌+◌, ◌∙◌, ap, arith, length, nat_eq}
use Rattle.std.specs.Cmp.Lexicographic.{pointwise, slice_cmp}
use Rattle.std.specs.List.{concat}
use Rattle.std.specs.Ordering.{is_eq, nat_cmp}
use Rattle.arrow_memory.specs.Offsets.{last_of}
use Rattle.arrow_column.specs.Column.{slots_of, stored_values}
use Rattle.arrow_bytes.proofs.CallerLemmas.{last-offset}
use Rattle.compute_select.specs.Selects.{mask_shown, slots_null_if}
use Rattle.compute_select.proofs.ItemLemmas.{items-within, left-within}
use Rattle.compute_select.proofs.NullLemmas.{differing-as, items-agree, stores-differing}
use Rattle.compute_select.proofs.ShownLemmas.{fits-rows, masked-shown}
use Rattle.compute_select.proofs.nullif.nullif_items.Goals as goal

pub with_validity-requires : goal.with_validity-requires
with_validity-requires g c =
    let lhs = c.args.lhs.now in
    let rhs = c.args.rhs.now in
    let same = differing-as (λ x y. is_eq (slice_cmp nat_cmp x y)) (pointwise nat_eq) items-agree (slots_of lhs)
    (slots_of rhs) in
    fits-rows lhs _ (slots_null_if (pointwise nat_eq) (slots_of lhs) (slots_of rhs)) _ c.in_ok-clone.ensures.ok
    (c.in_ok-mask.ensures.ok ∙ ap mask_shown same) (stores-differing (pointwise nat_eq) lhs.rows rhs.rows c.requires)

pub returns-clause-ok : goal.returns-clause-ok
returns-clause-ok g c =
    let lhs = c.args.lhs.now in
    let rhs = c.args.rhs.now in
    let same = differing-as (λ x y. is_eq (slice_cmp nat_cmp x y)) (pointwise nat_eq) items-agree (slots_of lhs)
    (slots_of rhs) in
    let slots = slots_null_if (pointwise nat_eq) (slots_of lhs) (slots_of rhs) in
    let end : last_of c.offsets.result.now ≡ length lhs.around.lead + length (concat (stored_values lhs)) =
    ap last_of c.offsets.ensures ∙ last-offset (length lhs.around.lead) (stored_values lhs) in (
      items-within g.O.Offset.most slots (omega (
        arith,
        end,
        c.last.ensures.within,
        left-within (pointwise nat_eq) lhs.rows rhs.rows,
      )),
      masked-shown lhs _ _ slots _ c.in_ok-clone.ensures.ok c.with_validity.ensures
          (c.in_ok-mask.ensures.ok ∙ ap mask_shown same)
          (stores-differing (pointwise nat_eq) lhs.rows rhs.rows c.requires),
    )
