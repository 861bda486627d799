use Rattle.std.proofs.Common.{◌≡◌, flat_map, length, sum_by}
use Rattle.std.proofs.lemmas.Result.{IfOk-weaker}
use Rattle.arrow_column.specs.Column.{slots_of}
use Rattle.arrow_bytes.specs.Pieces.{nothing_around}
use Rattle.tests_kernels.proofs.law_callers.concat.Goals as goal

pub returns-clause-slots : goal.returns-clause-slots
returns-clause-slots c =
    IfOk-weaker c.concat_utf8.result _ (λ made. slots_of made ≡ flat_map slots_of c.args.arrays.now)
    (λ made joined. c.concatenated_slots.ensures.slots nothing_around c.args.arrays.now made joined.1)
    c.concat_utf8.ensures.ok

pub returns-clause-count : goal.returns-clause-count
returns-clause-count c =
    IfOk-weaker c.concat_utf8.result _ (λ made.
    length made.rows ≡ sum_by (λ array. length array.rows) c.args.arrays.now)
    (λ made joined. c.concatenated_slots.ensures.count nothing_around c.args.arrays.now made joined.1)
    c.concat_utf8.ensures.ok
