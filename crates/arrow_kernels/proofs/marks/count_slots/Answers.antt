use Rattle.std.proofs.Common.{◌≡◌, ◌+◌, ◌∙◌, ap, arith, flat_map, length, length-append, take}
use Rattle.std.proofs.lemmas.List.{length-map}
use Rattle.arrow_column.specs.Column.{marks_of}
use Rattle.arrow_kernels.proofs.JoinLemmas.{joined-more}
use Rattle.arrow_kernels.proofs.marks.count_slots.Goals as goal

pub loop-array-preserved : goal.loop-array-preserved
loop-array-preserved g c =
    let marks = λ (array : g.row.A.Denot). marks_of (g.A.Array.column array) in
    let arrays = c.args.arrays.now in
    let i = c.loop-array.array-index in
    let array = c.array-item.result in
    let more = joined-more marks arrays i array c.loop-array-test.true c.array-item.is in
    let long : length (flat_map marks (take (i + 1) arrays))
    ≡ length (flat_map marks (take i arrays)) + length (marks array) =
    ap length more ∙ length-append (flat_map marks (take i arrays)) (marks array) in
    omega (
      arith,
      long,
      c.loop-array.invariant,
      c.len.ensures,
      length-map (g.A.Array.column array).rows (λ row. row.1),
      c.saturating_add-count.ensures,
    )
