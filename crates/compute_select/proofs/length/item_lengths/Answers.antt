use Rattle.std.proofs.Common.{◌<◌, ◌≡◌, ◌∙◌, [], ap, arith, get_or, length, List, ℕ, map, pos, slice_get, Some, subst, sym}
use Rattle.std.proofs.lemmas.List.{length-map}
use Rattle.std.proofs.lemmas.Option.{slice_get-get_or}
use Rattle.arrow_memory.specs.Offsets.{KeepsOffsets, numbers_of}
use Rattle.arrow_column.specs.Column.{stored_values}
use Rattle.compute_select.proofs.LengthLemmas.{all-mapped, count-held, item-size, next-mapped}
use Rattle.compute_select.proofs.length.item_lengths.Goals as goal

pub item_length-requires-clause-keeps : goal.item_length-requires-clause-keeps
item_length-requires-clause-keeps g c =
    subst (KeepsOffsets g.O.Offset.number g.O.Offset.most) (sym c.as_slice-offsets.ensures) c.buffer.ensures.keeps

pub item_length-requires-clause-within : goal.item_length-requires-clause-within
item_length-requires-clause-within g c = omega (
  arith,
  ap length c.as_slice-offsets.ensures,
  c.buffer.ensures.count,
  count-held c.args.array.now c.offsets.result.now c.offsets.ensures,
  c.len-i-end.ensures,
  c.loop-i-test.true,
)

pub loop-i-preserved : goal.loop-i-preserved
loop-i-preserved g c =
    let items : List (List ℕ) = stored_values c.args.array.now in
    let i = c.loop-i.i in
    let ends = numbers_of g.O.Offset.number c.as_slice-offsets.result.now in
    let held = ap (numbers_of g.O.Offset.number) c.as_slice-offsets.ensures ∙ c.buffer.ensures.numbers ∙ c.offsets.ensures in
    let row : i < length c.args.array.now.rows = omega (arith, c.len-i-end.ensures, c.loop-i-test.true) in
    let within : i < length items = omega (arith, row, length-map c.args.array.now.rows (λ row. row.0)) in
    let found : slice_get items i ≡ Some (get_or items i []) = slice_get-get_or items i [] within in
    record {
      so_far = ap (map g.O.Offset.number) c.push_reserved.ensures.items
          ∙ next-mapped (λ item. pos (length item)) g.O.Offset.number items c.loop-i.lengths.items i (get_or items i [])
          c.item_length.result found c.loop-i.invariant.so_far (c.item_length.ensures.size
          ∙ ap pos (item-size c.args.array.now ends i (get_or items i []) held row c.item_length.ensures.last found));
      room = omega (arith, c.loop-i.invariant.room, c.push_reserved.ensures.capacity);
      count = omega (arith, c.loop-i.invariant.count, c.push_reserved.ensures.len);
    }

pub returns : goal.returns
returns g c =
    let items : List (List ℕ) = stored_values c.args.array.now in
    all-mapped (λ item. pos (length item)) g.O.Offset.number items c.loop-i.lengths.items c.loop-i.i
    (omega (arith, length-map c.args.array.now.rows (λ row. row.0), c.len-i-end.ensures, c.loop-i-test.false))
    c.loop-i.invariant.so_far
