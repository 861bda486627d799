use Rattle.std.proofs.Common.{◌∙◌, ap, map}
use Rattle.std.proofs.lemmas.Result.{MatchResult-weaker}
use Rattle.arrow_bytes.specs.Selection.{concat_overflows}
use Rattle.arrow_column.specs.Column.{refused_growth}
use Rattle.compute_select.proofs.ItemLemmas.{growth-refused}
use Rattle.compute_select.proofs.concatenate.concatenate_items.Goals as goal

pub returns-clause-err : goal.returns-clause-err
returns-clause-err g c =
    let most = g.O.Offset.most in
    let copies = map (λ array. array.now) c.args.arrays.now in
    MatchResult-weaker c.concat_items.result c.concat_items.ensures.err (λ _ t. t)
    (λ e is. growth-refused (concat_overflows most copies) e
    (is ∙ ap (λ columns. refused_growth (concat_overflows most columns))
    (c.as_slice.ensures.value ∙ c.in_ok-copies.ensures.ok)))
