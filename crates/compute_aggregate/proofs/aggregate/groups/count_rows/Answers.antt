use Rattle.std.proofs.Common.{◌≡◌, ◌∙◌, ◌+◌, ◌%◌, ◌^◌, Some, ap, arith, if◌then◌else◌, fold, get_or, sym}
use Rattle.std.specs.List.{zip}
use Rattle.std.proofs.lemmas.List.{length-map, take_all}
use Rattle.std.proofs.lemmas.Option.{slice_get-get_or}
use Rattle.std.proofs.lemmas.Slice.Zip.{length-zip}
use Rattle.arrow_types.proofs.CallerLemmas.{get-zip}
use Rattle.arrow_memory.specs.Rows.{slot}
use Rattle.arrow_column.specs.Column.{slots_of}
use Rattle.compute_aggregate.specs.Groups.{count_step, fold_slot, values_at}
use Rattle.compute_aggregate.proofs.GroupLemmas.{row_more, slot_by_mark}
use Rattle.compute_aggregate.proofs.aggregate.groups.count_rows.Goals as goal
use Rattle.compute_aggregate.proofs.aggregate.groups.count_rows.Goals.{else-is_valid, then-is_valid}

pub loop-i-preserved : goal.loop-i-preserved
loop-i-preserved g c = λ k low.
    let column = g.A.Array.column c.args.array.now in
    let index = get_or c.args.indices.now c.loop-i.i 0 in
    let within = c.requires.within c.loop-i.i 0 c.loop-i-test.true in
    let at = slice_get-get_or c.args.indices.now c.loop-i.i 0 c.loop-i-test.true in
    let current = get_or c.loop-i.counts index 0 in
    let state = slice_get-get_or c.loop-i.counts index 0 (omega (arith, within, c.loop-i.auto.counts)) in
    let shown = slot_by_mark column.rows c.loop-i.i c.is_valid.result c.is_valid.ensures in
    let next : c.if-is_valid.counts ≡ fold_slot count_step current shown.0 = elim c.if-is_valid.branch [
      | then-is_valid w ↦ w.counts-is ∙ ap (λ m. if m then (current + 1) % 2 ^ 64 else current) (sym w.if-is_valid.true)
          ∙ sym (shown.2 current)
      | else-is_valid w ↦ w.counts-is ∙ ap (λ m. if m then (current + 1) % 2 ^ 64 else current) (sym w.if-is_valid.false)
          ∙ sym (shown.2 current)
    ] in
    row_more count_step c.loop-i.counts (zip c.args.indices.now (slots_of column)) c.loop-i.i index k shown.0 current
    c.if-is_valid.counts 0 (get-zip c.args.indices.now (slots_of column) c.loop-i.i index shown.0 at shown.1) state next
    (c.loop-i.invariant k low)

pub returns-clause-folded : goal.returns-clause-folded
returns-clause-folded g c = λ k low.
    let column = g.A.Array.column c.args.array.now in
    let pairs = zip c.args.indices.now (slots_of column) in
    c.loop-i.invariant k low
    ∙ ap (λ ps. Some (fold count_step 0 (values_at ps k))) (take_all c.loop-i.i pairs
    (omega (arith, length-zip c.args.indices.now (slots_of column), length-map column.rows slot)))
