use Rattle.std.proofs.Common.{◌<◌, ◌^◌, ◌∙◌, ap, arith, length}
use Rattle.std.proofs.lemmas.Result.{MatchResult-weaker}
use Rattle.arrow_bytes.specs.Pieces.{nothing_around}
use Rattle.arrow_column.specs.Column.{refused_growth, slots_of}
use Rattle.compute_sort.proofs.TakeLemmas.{all-fit, fits-again, taken-slots}
use Rattle.compute_sort.proofs.sortable.take_items_once.Goals as goal

pub returns-clause-err : goal.returns-clause-err
returns-clause-err g c =
    let small : length c.args.array.now.rows < 2 ^ 64 = omega (arith, c.len.ensures, c.len.type_inv) in
    MatchResult-weaker c.take_items.result c.take_items.ensures.err (λ _ t. t)
    (λ e m. m (all-fit c.args.array.now c.args.indexes.now small c.requires)
    ∙ ap refused_growth (fits-again c.args.array.now c.offsets.result.now c.args.indexes.now g.O.Offset.most small
    c.offsets.ensures c.last.ensures.within c.requires))

pub returns-clause-slots : goal.returns-clause-slots
returns-clause-slots g c =
    let small : length c.args.array.now.rows < 2 ^ 64 = omega (arith, c.len.ensures, c.len.type_inv) in
    MatchResult-weaker c.take_items.result c.take_items.ensures.ok
    (λ made both. ap slots_of both.1
    ∙ taken-slots nothing_around c.args.array.now c.args.indexes.now small c.requires) (λ _ t. t)
