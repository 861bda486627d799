use Rattle.std.proofs.Common.{◌≡◌, ◌+◌, ap, sym, not, count_by, take, flat_map, ◌∙◌, arith}
use Rattle.arrow_types.proofs.CallerLemmas.{all-by_count}
use Rattle.arrow_column.specs.Column.{marks_of}
use Rattle.arrow_kernels.proofs.JoinLemmas.{all-more, joined-more, none-all}
use Rattle.arrow_kernels.proofs.marks.has_nulls.Goals as goal

pub returns-then-null_count-ne0 : goal.returns-then-null_count-ne0
returns-then-null_count-ne0 g c =
    let marks = λ (array : g.row.A.Denot). marks_of (g.A.Array.column array) in
    let arrays = c.args.arrays.now in
    let i = c.loop-array.array-index in
    let array = c.array-item.result in
    let more = joined-more marks arrays i array c.loop-array-test.true c.array-item.is in
    let clear = (all-by_count (marks array)).1
    (λ none. omega (arith, none, c.null_count.ensures, c.if-null_count-ne0.true)) in
    sym (ap not (none-all marks (i + 1) arrays (all-more (flat_map marks (take i arrays)) (marks array) _
    c.loop-array.invariant more ∙ clear)))

pub loop-array-preserved : goal.loop-array-preserved
loop-array-preserved g c =
    let marks = λ (array : g.row.A.Denot). marks_of (g.A.Array.column array) in
    let arrays = c.args.arrays.now in
    let i = c.loop-array.array-index in
    let array = c.array-item.result in
    let more = joined-more marks arrays i array c.loop-array-test.true c.array-item.is in
    let none : count_by not (marks array) ≡ 0 = omega (arith, c.null_count.ensures, c.if-null_count-ne0.false) in
    all-more (flat_map marks (take i arrays)) (marks array) _ c.loop-array.invariant more
    ∙ (all-by_count (marks array)).0 none
