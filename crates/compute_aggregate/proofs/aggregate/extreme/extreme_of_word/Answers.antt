use Rattle.std.proofs.Common.{◌≡◌, ◌+◌, ◌∙◌, ◌==◌, Some, ap, arith, option_map}
use Rattle.compute_aggregate.specs.Aggregates.{extreme_before}
use Rattle.compute_aggregate.proofs.ExtremeLemmas.{clear_nulls, up_to, valid_more}
use Rattle.compute_aggregate.proofs.aggregate.extreme.extreme_of_word.Goals as goal

pub loop-k-init : goal.loop-k-init
loop-k-init g c =
    let column = g.A.Array.column c.args.array.now in
    let k = c.next_set-k.result in
    let start = c.requires.so_far ∙ ap (extreme_before c.args.extreme g.A.OrderSlots.order column)
    (let e : c.args.place ≡ c.args.place + 0 = omega arith in e) in
    record {
      high = c.next_set-k.ensures.high;
      set = c.next_set-k.ensures.set;
      so_far = up_to c.args.extreme g.A.OrderSlots.order column (c.args.place + 0) (c.args.place + k)
          (option_map g.A.BorrowSlots.seen c.args.before) (omega arith)
          (clear_nulls c.args.extreme g.A.OrderSlots.order column c.args.word c.args.place 0 k c.next_set-k.ensures.high
          c.requires.marks c.next_set-k.ensures.clear) start;
    }

pub loop-k-preserved : goal.loop-k-preserved
loop-k-preserved g c =
    let column = g.A.Array.column c.args.array.now in
    let cmp = g.A.OrderSlots.order in
    let k = c.loop-k.k in
    let next = c.next_set-k-in-loop-k.result in
    let best = option_map g.A.BorrowSlots.seen c.more_extreme-best.result in
    let mark = c.requires.marks k (omega arith)
    ∙ ap (λ b. Some (b == 1)) (c.loop-k.invariant.set (omega arith)) in
    let here : best ≡ extreme_before c.args.extreme cmp column (c.args.place + k + 1) =
    valid_more c.args.extreme cmp column (c.args.place + k) (option_map g.A.BorrowSlots.seen c.loop-k.best) best
    (g.A.BorrowSlots.seen c.value.result) c.value.ensures mark c.loop-k.invariant.so_far c.more_extreme-best.ensures in
    let from = here ∙ ap (extreme_before c.args.extreme cmp column)
    (let e : c.args.place + k + 1 ≡ c.args.place + (k + 1) = omega arith in e) in
    record {
      high = c.next_set-k-in-loop-k.ensures.high;
      set = c.next_set-k-in-loop-k.ensures.set;
      so_far = up_to c.args.extreme cmp column (c.args.place + (k + 1)) (c.args.place + next) best
          (omega (arith, c.next_set-k-in-loop-k.ensures.low))
          (clear_nulls c.args.extreme cmp column c.args.word c.args.place (k + 1) next c.next_set-k-in-loop-k.ensures.high
          c.requires.marks c.next_set-k-in-loop-k.ensures.clear) from;
    }

pub returns : goal.returns
returns g c =
    let column = g.A.Array.column c.args.array.now in
    let end : c.loop-k.k ≡ 64 = omega (arith, c.loop-k.invariant.high) in
    c.loop-k.invariant.so_far ∙ ap (λ n. extreme_before c.args.extreme g.A.OrderSlots.order column (c.args.place + n)) end
