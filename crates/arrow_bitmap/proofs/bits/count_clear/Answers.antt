use Rattle.std.proofs.Common.{◌-◌, ◌≤◌, ◌*◌, ◌/◌, ap₂, ◌∙◌, ◌+◌, arith}
use Rattle.arrow_bitmap.proofs.MarkLemmas.{clear_on, clear_parts, clear-le, le-ceil}
use Rattle.arrow_bitmap.proofs.bits.count_clear.Goals as goal

pub overflow_add-result : goal.overflow_add-result
overflow_add-result c =
    let bytes = c.args.bytes.now in
    let first = c.div_ceil-first.result in
    omega (
      arith,
      c.count_clear_few-head.ensures,
      c.count_clear_whole-body.ensures,
      clear-le bytes c.args.start (8 * first - c.args.start),
      clear-le bytes (8 * first) (8 * (c.args.end / 8 - first)),
    )

pub overflow_add-result-then-first-past : goal.overflow_add-result-then-first-past
overflow_add-result-then-first-past c =
    let bytes = c.args.bytes.now in
    let first = c.div_ceil-first.result in
    let past = c.args.end / 8 in
    omega (
      arith,
      c.count_clear_few-head.ensures,
      c.count_clear_whole-body.ensures,
      c.count_clear_few.ensures,
      clear-le bytes c.args.start (8 * first - c.args.start),
      clear-le bytes (8 * first) (8 * (past - first)),
      clear-le bytes (8 * past) (c.args.end - 8 * past),
    )

pub overflow_add-result-else-first-past : goal.overflow_add-result-else-first-past
overflow_add-result-else-first-past c =
    let bytes = c.args.bytes.now in
    let middle = c.args.start + (c.args.end - c.args.start) / 2 in
    omega (
      arith,
      c.count_clear_few-else-first-past.ensures,
      c.count_clear_few-else-first-past-2.ensures,
      clear-le bytes c.args.start (middle - c.args.start),
      clear-le bytes middle (c.args.end - middle),
    )

pub returns-then-first-past : goal.returns-then-first-past
returns-then-first-past c =
    let bytes = c.args.bytes.now in
    let first = c.div_ceil-first.result in
    let past = c.args.end / 8 in
    let start_le : c.args.start ≤ 8 * first = omega (arith, le-ceil c.args.start, c.div_ceil-first.ensures) in
    ap₂ ◌+◌ (ap₂ ◌+◌ c.count_clear_few-head.ensures c.count_clear_whole-body.ensures) c.count_clear_few.ensures
    ∙ clear_parts bytes c.args.start first past c.args.end start_le (omega arith) (omega arith)

pub returns-else-first-past : goal.returns-else-first-past
returns-else-first-past c =
    let middle = c.args.start + (c.args.end - c.args.start) / 2 in
    ap₂ ◌+◌ c.count_clear_few-else-first-past.ensures c.count_clear_few-else-first-past-2.ensures
    ∙ clear_on c.args.bytes.now c.args.start middle c.args.end (omega arith) (omega arith)
