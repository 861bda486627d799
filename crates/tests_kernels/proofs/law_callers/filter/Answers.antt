use Rattle.std.proofs.Common.{◌≡◌, ◌∙◌, ap, count_by, length}
use Rattle.std.proofs.lemmas.Result.{IfOk-weaker}
use Rattle.arrow_column.specs.Column.{slots_of}
use Rattle.arrow_bytes.specs.Pieces.{nothing_around}
use Rattle.arrow_bytes.specs.Selection.{asked, where_set}
use Rattle.tests_kernels.proofs.law_callers.filter.Goals as goal

pub returns-clause-slots : goal.returns-clause-slots
returns-clause-slots c =
    IfOk-weaker c.filter_utf8.result _
    (λ kept. slots_of kept ≡ where_set (asked c.args.filter.now) (slots_of c.args.array.now))
    (λ kept same. ap slots_of same
    ∙ c.filtered_slots.ensures.slots nothing_around c.args.array.now c.args.filter.now)
    c.filter_utf8.ensures.ok

pub returns-clause-count : goal.returns-clause-count
returns-clause-count c =
    IfOk-weaker c.filter_utf8.result _
    (λ kept. length kept.rows ≡ count_by (λ mark. mark) (asked c.args.filter.now))
    (λ kept same. ap (λ column. length column.rows) same
    ∙ c.filtered_slots.ensures.count nothing_around c.args.array.now c.args.filter.now c.requires)
    c.filter_utf8.ensures.ok
