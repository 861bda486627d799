use Rattle.std.proofs.Common.{◌≡◌, ◌+◌, ◌-◌, ◌*◌, ◌/◌, count_by, not, ap, arith}
use Rattle.arrow_bitmap.specs.Marks.{marks}
use Rattle.arrow_bitmap.proofs.MarkLemmas.{clear-le, clear_on}
use Rattle.arrow_bitmap.proofs.bits.count_clear_whole.Goals as goal

pub overflow_add-result : goal.overflow_add-result
overflow_add-result c =
    let bytes = c.args.bytes.now in
    let first = c.args.first in
    let past = c.args.past in
    let turns = (past - first) / 256 in
    let rest = first + 256 * turns in
    omega (
      arith,
      c.count_clear_front.ensures,
      c.count_clear_words.ensures,
      clear-le bytes (8 * first) (2048 * turns),
      clear-le bytes (8 * rest) (8 * (past - rest)),
    )

pub returns : goal.returns
returns c =
    let bytes = c.args.bytes.now in
    let first = c.args.first in
    let past = c.args.past in
    let turns = (past - first) / 256 in
    let rest = first + 256 * turns in
    omega (
      arith,
      c.count_clear_front.ensures,
      c.count_clear_words.ensures,
      clear_on bytes (8 * first) (8 * rest) (8 * past) (omega arith) (omega arith),
      ap (λ n. count_by not (marks bytes (8 * first) n)) (let e : 8 * rest - 8 * first ≡ 2048 * turns = omega arith in e),
      ap (λ n. count_by not (marks bytes (8 * rest) n)) (let e : 8 * past - 8 * rest ≡ 8 * (past - rest) = omega arith in
          e),
      ap (λ n. count_by not (marks bytes (8 * first) n)) (let e : 8 * past - 8 * first ≡ 8 * (past - first) =
          omega arith in e),
    )
