use Rattle.std.proofs.Common.{◌+◌, arith}
use Rattle.arrow_kernels.proofs.RunLemmas.{clear-between, hole-before, read-of, set-between, set-on}
use Rattle.arrow_kernels.proofs.filter_rows.keep_runs.Goals as goal

pub loop-hole-init : goal.loop-hole-init
loop-hole-init g c =
    let selected = g.R.FilterRows.selected c.args.rows.now in
    let read = read-of c.mask.result.now selected c.args.row 64 _ c.mask.ensures c.word-word.ensures.marks in
    let next = c.next_set-hole.ensures in
    record {
      high = next.high;
      order = omega (arith, c.requires.pending.order);
      clear = next.set;
      set = set-on selected c.args.row c.word-word.result read (omega arith) c.args.start c.next_set-hole.result
          next.high c.requires.pending.set next.clear;
      so_far = c.requires.pending.so_far;
    }

pub loop-hole-smaller : goal.loop-hole-smaller
loop-hole-smaller g c =
    let selected = g.R.FilterRows.selected c.args.rows.now in
    let read = read-of c.mask.result.now selected c.args.row 64 _ c.mask.ensures c.word-word.ensures.marks in
    let place = c.next_set-place.ensures in
    let next = c.next_set-hole-in-loop-hole.ensures in
    let less = c.loop-hole-test.true in
    let longer = hole-before selected c.args.row c.word-word.result read (omega arith) c.loop-hole.hole
    c.next_set-place.result less (c.loop-hole.invariant.clear less) place.low place.set in
    omega (arith, longer, next.low, less)

pub loop-hole-preserved : goal.loop-hole-preserved
loop-hole-preserved g c =
    let selected = g.R.FilterRows.selected c.args.rows.now in
    let row = c.args.row in
    let word = c.word-word.result in
    let read = read-of c.mask.result.now selected row 64 word c.mask.ensures c.word-word.ensures.marks in
    let place = c.next_set-place.ensures in
    let next = c.next_set-hole-in-loop-hole.ensures in
    record {
      high = next.high;
      order = omega (arith, next.low);
      clear = next.set;
      set = set-between selected row word read (omega arith) c.next_set-place.result
          c.next_set-hole-in-loop-hole.result next.high next.clear;
      so_far = g.met.R.FilterRows.passes_over c.args.rows.now _ (row + c.loop-hole.hole)
          (row + c.next_set-place.result) (omega (arith, place.low))
          (clear-between selected row word read c.loop-hole.hole c.next_set-place.result place.high place.clear)
          c.in_ok-keep_run.ensures;
    }
