use Rattle.std.proofs.Common.{◌≡◌, ◌*◌, ◌/◌, ◌+◌, ◌∙◌, ap, arith, if◌then◌else◌, length, option_map, refl, slice_get, sym}
use Rattle.std.proofs.lemmas.List.{length-map}
use Rattle.compute_aggregate.specs.Aggregates.{extreme_before}
use Rattle.compute_aggregate.proofs.ExtremeLemmas.{all_extreme, mark_more}
use Rattle.compute_aggregate.proofs.aggregate.extreme.extreme_masked.Goals as goal
use Rattle.compute_aggregate.proofs.aggregate.extreme.extreme_masked.Goals.{else-get_bit, then-get_bit}

pub loop-i-preserved : goal.loop-i-preserved
loop-i-preserved g c =
    c.extreme_of_word-best.ensures
    ∙ ap (extreme_before c.args.extreme g.A.OrderSlots.order (g.A.Array.column c.args.array.now))
    (let e : 64 * c.loop-i.i + 64 ≡ 64 * (c.loop-i.i + 1) = omega arith in e)

pub loop-k-preserved : goal.loop-k-preserved
loop-k-preserved g c =
    let seen = g.A.BorrowSlots.seen in
    let column = g.A.Array.column c.args.array.now in
    let mark = ap (λ marks. slice_get marks c.loop-k.k) (sym c.requires) ∙ c.get_bit.ensures in
    let next = option_map seen c.more_extreme-next.result in
    let best = option_map seen c.loop-k.best in
    let chosen : option_map seen c.if-get_bit.best ≡ (if c.get_bit.result then next else best) = elim c.if-get_bit.branch [
      | then-get_bit w ↦ ap (option_map seen) w.best-is ∙ ap (λ b. if b then next else best) (sym w.if-get_bit.true)
      | else-get_bit w ↦ ap (option_map seen) w.best-is ∙ ap (λ b. if b then next else best) (sym w.if-get_bit.false)
    ] in
    mark_more c.args.extreme g.A.OrderSlots.order column c.loop-k.k best next (option_map seen c.if-get_bit.best)
    (seen c.value.result) c.get_bit.result c.value.ensures mark c.loop-k.invariant c.more_extreme-next.ensures chosen

pub loop-k-init : goal.loop-k-init
loop-k-init g c =
    c.loop-i.invariant
    ∙ ap (extreme_before c.args.extreme g.A.OrderSlots.order (g.A.Array.column c.args.array.now))
    (let all : 64 * c.loop-i.i ≡ 64 * (c.len-words.result / 64) = omega arith in all)

pub extreme_of_word-best-requires : goal.extreme_of_word-best-requires
extreme_of_word-best-requires g c = λ k.
    let column = g.A.Array.column c.args.array.now in
    let rows : length c.args.mask.now ≡ length column.rows = ap length c.requires ∙ length-map column.rows (λ row. row.1) in (
      (refl, tt),
      (
        omega (arith, rows),
        (
          omega arith,
          (
            (λ i low.
                ap (λ marks. slice_get marks (64 * c.loop-i.i + i)) (sym c.requires) ∙ c.word.ensures i low),
            c.loop-i.invariant,
          ),
        ),
      ),
    )

pub returns : goal.returns
returns g c =
    let column = g.A.Array.column c.args.array.now in
    all_extreme c.args.extreme g.A.OrderSlots.order column (option_map g.A.BorrowSlots.seen c.loop-k.best) c.loop-k.k
    (omega (arith, ap length c.requires, length-map column.rows (λ row. row.1))) c.loop-k.invariant
