use Rattle.std.proofs.Common.{◌≡◌, ◌+◌, arith, bit_and, ◌-◌, subst, w64}
use Rattle.std.specs.Int.{trailing_zeros}
use Rattle.arrow_kernels.proofs.RunLemmas.{read-of}
use Rattle.arrow_kernels.proofs.WordLemmas.{behind, gap-next, left-next, less-left, lowest, lowest-set, lowest-within, no-more}
use Rattle.arrow_kernels.proofs.WordLemmas.{starts-clear}
use Rattle.arrow_kernels.proofs.filter_rows.keep_each.Goals as goal

pub loop-left-init : goal.loop-left-init
loop-left-init g c =
    let selected = g.R.FilterRows.selected c.args.rows.now in
    let row = c.args.row in
    let word = c.word-left.result in
    let read = read-of c.mask.result.now selected row c.args.count word c.mask.ensures c.word-left.ensures.marks in
    record {
      marked = λ k low up. read k low;
      small = c.word-left.ensures.small;
      so_far = g.met.R.FilterRows.passes_over c.args.rows.now _ row (row + lowest c.args.count word) (omega arith)
          (starts-clear selected row c.args.count word c.requires.few c.word-left.ensures.small read) c.requires.so_far;
    }

pub overflow_add-row : goal.overflow_add-row
overflow_add-row g c = record {
  fits = omega (
    arith,
    c.requires.fits,
    lowest-within c.args.count c.loop-left.left c.requires.few c.loop-left.invariant.small (omega arith),
  );
}

pub push_row-requires-clause-set : goal.push_row-requires-clause-set
push_row-requires-clause-set g c = lowest-set (g.R.FilterRows.selected c.args.rows.now) c.args.row c.args.count
    c.loop-left.left c.requires.few c.loop-left.invariant.small (omega arith) c.loop-left.invariant.marked

pub push_row-requires-clause-so_far : goal.push_row-requires-clause-so_far
push_row-requires-clause-so_far g c =
    let left = c.loop-left.left in
    let inside = lowest-within c.args.count left c.requires.few c.loop-left.invariant.small (omega arith) in
    let there : lowest c.args.count left ≡ trailing_zeros w64 left = omega (arith, inside) in
    subst (λ n. g.R.FilterRows.keeps_before c.args.rows.now c.loop-left.kept (c.args.row + n)) there
    c.loop-left.invariant.so_far

pub loop-left-preserved : goal.loop-left-preserved
loop-left-preserved g c =
    let selected = g.R.FilterRows.selected c.args.rows.now in
    let row = c.args.row in
    let count = c.args.count in
    let left = c.loop-left.left in
    let few = c.requires.few in
    let small = c.loop-left.invariant.small in
    let marked = c.loop-left.invariant.marked in
    record {
      marked = left-next selected row count left few small (omega arith) marked;
      small = omega (arith, small, less-left left (omega arith));
      so_far = g.met.R.FilterRows.passes_over c.args.rows.now _ (row + trailing_zeros w64 left + 1)
          (row + lowest count (bit_and left (left - 1)))
          (omega (arith, behind selected row count left few small (omega arith) marked))
          (gap-next selected row count left few small (omega arith) marked) c.in_ok-push_row.ensures;
    }

pub loop-left-smaller : goal.loop-left-smaller
loop-left-smaller g c = less-left c.loop-left.left (omega arith)

pub returns : goal.returns
returns g c =
    let none : lowest c.args.count c.loop-left.left ≡ c.args.count = omega (
      arith,
      c.requires.few,
      no-more c.loop-left.left (omega arith),
    ) in
    subst (λ n. g.R.FilterRows.keeps_before c.args.rows.now c.loop-left.kept (c.args.row + n)) none
    c.loop-left.invariant.so_far
