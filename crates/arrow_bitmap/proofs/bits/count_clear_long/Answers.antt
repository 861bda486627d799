use Rattle.std.proofs.Common.{◌≡◌, ◌-◌, ◌*◌, ◌/◌, count_by, not, ap, arith}
use Rattle.arrow_bitmap.specs.Marks.{marks}
use Rattle.arrow_bitmap.proofs.MarkLemmas.{clear_first, clear-le}
use Rattle.arrow_bitmap.proofs.bits.count_clear_long.Goals as goal

pub overflow_add-result : goal.overflow_add-result
overflow_add-result c =
    let bytes = c.args.bytes.now in
    let past = c.args.end / 8 in
    omega (
      arith,
      c.count_clear_whole.ensures,
      c.count_clear_few.ensures,
      clear-le bytes (8 * 0) (8 * (past - 0)),
      clear-le bytes (8 * past) (c.args.end - 8 * past),
    )

pub returns : goal.returns
returns c =
    let bytes = c.args.bytes.now in
    let past = c.args.end / 8 in
    omega (
      arith,
      c.count_clear_whole.ensures,
      c.count_clear_few.ensures,
      clear_first bytes (8 * past) c.args.end (omega arith),
      ap (λ n. count_by not (marks bytes 0 (8 * n))) (let e : past - 0 ≡ past = omega arith in e),
    )
