use Rattle.std.proofs.Common.{◌≡◌, ◌+◌, ap, refl, arith, length, ◌∙◌}
use Rattle.std.specs.List.{concat}
use Rattle.arrow_column.specs.Column.{stored_values}
use Rattle.arrow_kernels.proofs.JoinLemmas.{joined-length, length-more}
use Rattle.arrow_kernels.proofs.concat_parts.concat_length.Goals as goal

pub returns-then-added-most-clause-err : goal.returns-then-added-most-clause-err
returns-then-added-most-clause-err g c =
    let arrays = c.args.arrays.now in
    let i = c.loop-array.array-index in
    let more = length-more stored_values arrays i c.array-item.result c.loop-array-test.true c.array-item.is in
    let added : c.byte_count-added.result ≡ length (concat (stored_values c.array-item.result)) =
    c.byte_count-added.ensures.count ∙ ap (λ items. length (concat items)) (c.as_slice.ensures
    ∙ c.byte_values.ensures.items) in
    let same : c.to_usize-most.result ≡ g.O.Offset.most = cc in (
      refl,
      omega (
        arith,
        more,
        same,
        joined-length stored_values (i + 1) arrays,
        added,
        c.if-added-most.true,
        c.loop-array.invariant.0,
        c.loop-array.invariant.1,
      ),
    )

pub loop-array-preserved : goal.loop-array-preserved
loop-array-preserved g c =
    let more = length-more stored_values c.args.arrays.now c.loop-array.array-index c.array-item.result
    c.loop-array-test.true c.array-item.is in
    let added : c.byte_count-added.result ≡ length (concat (stored_values c.array-item.result)) =
    c.byte_count-added.ensures.count ∙ ap (λ items. length (concat items)) (c.as_slice.ensures
    ∙ c.byte_values.ensures.items) in (
      omega (arith, more, added, c.loop-array.invariant.0),
      omega (arith, c.if-added-most.false, c.loop-array.invariant.1),
    )
