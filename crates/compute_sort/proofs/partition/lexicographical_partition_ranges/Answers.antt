use Rattle.std.proofs.Common.{◌≡◌, ◌∙◌, [], ap, arith, false, get_or, refl, subst, sym}
use Rattle.compute_sort.specs.Columns.{columns_order, rows_count}
use Rattle.compute_sort.specs.Partition.{ArePartition}
use Rattle.compute_sort.proofs.PartitionLemmas.{RangesBelow, all-rows, next-row, one-row}
use Rattle.compute_sort.proofs.TotalLemmas.{first-count}
use Rattle.compute_sort.proofs.partition.lexicographical_partition_ranges.Goals as goal

pub loop-i-init : goal.loop-i-init
loop-i-init c =
    let order = columns_order c.args.columns.now in
    subst (RangesBelow order 1 0) (sym c.new-ranges.ensures.items) (one-row order)

pub loop-i-preserved : goal.loop-i-preserved
loop-i-preserved c =
    let order = columns_order c.args.columns.now in
    let i = c.loop-i.i in
    let differs = get_or c.as_slice-differs.result.now i false in
    let same = ap (λ xs. get_or xs i false) c.as_slice-differs.ensures.value
    ∙ c.in_ok-changed.ensures.each i (omega arith) (omega arith) in
    next-row order i c.loop-i.start c.in_ok-start.start c.loop-i.ranges.items c.end_range.new.ranges.items differs
    (omega arith) same c.loop-i.invariant c.in_ok-start.ensures.start c.in_ok-start.ensures.ranges

pub returns-then-count-eq0-clause-ok : goal.returns-then-count-eq0-clause-ok
returns-then-count-eq0-clause-ok c =
    let columns = c.args.columns.now in
    let order = columns_order columns in
    let count = c.len-count.ensures ∙ first-count columns c.index-columns-0.result c.requires.0 in
    let none : rows_count columns ≡ 0 = omega (arith, count) in
    subst (ArePartition order (rows_count columns)) (sym c.new-ranges.ensures.items)
    (subst (λ n. ArePartition order n []) (sym none) (record { starts = refl; ends = refl }))

pub returns-clause-ok : goal.returns-clause-ok
returns-clause-ok c =
    let columns = c.args.columns.now in
    let order = columns_order columns in
    let count = c.len-count.ensures ∙ first-count columns c.index-columns-0.result c.requires.0 in
    let all : c.loop-i.i ≡ rows_count columns = omega (arith, count) in
    let last : c.len-count.result ≡ rows_count columns = omega (arith, count) in
    subst (λ n. ArePartition order n c.push.new.self.items) last
    (all-rows order c.len-count.result c.loop-i.start c.loop-i.ranges.items c.push.new.self.items
    (subst (λ n. RangesBelow order n c.loop-i.start c.loop-i.ranges.items) (all ∙ sym last) c.loop-i.invariant)
    c.in_ok-push.ensures.items)
