use Rattle.std.proofs.Common.{◌≡◌, ◌∙◌, ◌+◌, ◌++◌, ap, arith, drop, length, subst, sym, take, unwrap_or}
use Rattle.std.proofs.Math.Seq.{take-append_seam}
use Rattle.compute_sort.specs.Columns.{columns_order, values_order}
use Rattle.compute_sort.specs.Partition.{AreChanges, NotesChanges}
use Rattle.compute_sort.proofs.ChangeLemmas.{more-changes}
use Rattle.compute_sort.proofs.columns.changed_rows.Goals as goal

pub loop-column-preserved : goal.loop-column-preserved
loop-column-preserved c =
    let columns = c.args.columns.now in
    let k = c.loop-column.column-index in
    let column = c.column-item.result in
    let old = c.loop-column.differs in
    let made = c.note_column.new.differs in
    let options = c.unwrap_or-options.ensures ∙ ap (unwrap_or column.options) c.default.ensures in
    let notes = subst (λ o. NotesChanges (values_order column.values o) old.items made) options
    (subst (λ xs. NotesChanges (values_order column.values c.unwrap_or-options.result) xs made)
    c.deref_mut.ensures.value c.note_column.ensures) in
    let long : old.len ≡ length made = omega (arith, c.note_column.ensures.count, c.deref_mut.ensures.len) in
    let whole = ap (λ n. take n (made ++ drop (length made) old.items)) long
    ∙ take-append_seam made (drop (length made) old.items) in
    subst (AreChanges (columns_order (take (k + 1) columns)) c.args.count) (sym whole)
    (more-changes columns k c.args.count column old.items made c.loop-column-test.true c.column-item.is
    c.loop-column.invariant notes)
