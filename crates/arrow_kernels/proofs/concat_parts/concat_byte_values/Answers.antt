use Rattle.std.proofs.Common.{◌≡◌, ◌+◌, ap, ap₂, arith, drop, flat_map, length, refl, sym, take, ◌++◌, ◌∙◌}
use Rattle.std.proofs.Math.Seq.{take-length}
use Rattle.arrow_column.specs.Column.{stored_values}
use Rattle.arrow_kernels.proofs.ItemLemmas.{bare-fits, bare-grown}
use Rattle.arrow_kernels.proofs.JoinLemmas.{joined-length, joined-more}
use Rattle.arrow_kernels.proofs.concat_parts.concat_byte_values.Goals as goal

pub push_fitting_items-requires-clause-within : goal.push_fitting_items-requires-clause-within
push_fitting_items-requires-clause-within g c = omega (
  arith,
  c.len.ensures,
  ap length c.as_slice.ensures,
  c.byte_values.ensures.count,
)

pub push_fitting_items-requires-clause-fits : goal.push_fitting_items-requires-clause-fits
push_fitting_items-requires-clause-fits g c =
    let arrays = c.args.arrays.now in
    let i = c.loop-array.array-index in
    let array = c.array-item.result in
    let so_far = flat_map stored_values (take i arrays) in
    let whole : take c.len.result (drop 0 c.as_slice.result) ≡ stored_values array =
    ap₂ take (c.len.ensures ∙ sym c.byte_values.ensures.count ∙ ap length (sym c.as_slice.ensures)) refl
    ∙ take-length c.as_slice.result ∙ c.as_slice.ensures ∙ c.byte_values.ensures.items in
    bare-fits g.O.Offset.most c.loop-array.joined so_far (take c.len.result (drop 0 c.as_slice.result))
    (flat_map stored_values (take (i + 1) arrays)) c.loop-array.invariant
    (ap (λ items. so_far ++ items) whole
    ∙ sym (joined-more stored_values arrays i array c.loop-array-test.true c.array-item.is))
    (omega (arith, joined-length stored_values (i + 1) arrays, c.requires))

pub loop-array-preserved : goal.loop-array-preserved
loop-array-preserved g c =
    let arrays = c.args.arrays.now in
    let i = c.loop-array.array-index in
    let array = c.array-item.result in
    let so_far = flat_map stored_values (take i arrays) in
    let whole : take c.len.result (drop 0 c.as_slice.result) ≡ stored_values array =
    ap₂ take (c.len.ensures ∙ sym c.byte_values.ensures.count ∙ ap length (sym c.as_slice.ensures)) refl
    ∙ take-length c.as_slice.result ∙ c.as_slice.ensures ∙ c.byte_values.ensures.items in
    let more = ap (λ items. so_far ++ items) whole
    ∙ sym (joined-more stored_values arrays i array c.loop-array-test.true c.array-item.is) in
    bare-grown g.O.Offset.most c.loop-array.joined so_far (take c.len.result (drop 0 c.as_slice.result))
    (flat_map stored_values (take (i + 1) arrays)) c.loop-array.invariant more _ c.in_ok-push_fitting_items.ensures.ok
