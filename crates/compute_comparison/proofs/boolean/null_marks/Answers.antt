use Rattle.std.proofs.Common.{sym, ◌∙◌, replicate, ap, false}
use Rattle.std.proofs.lemmas.Result.{MatchResult-weaker}
use Rattle.compute_comparison.proofs.NullLemmas.{null_held, null_unheld}
use Rattle.compute_comparison.proofs.boolean.null_marks.Goals as goal

pub returns-in-Some-clause-ok : goal.returns-in-Some-clause-ok
returns-in-Some-clause-ok g c =
    let made = null_held (g.A.Array.column c.args.array.now) c.in-Some.mask.now (sym c.in-Some.ensures.mask) in
    MatchResult-weaker c.not.result c.not.ensures.ok (λ marks e. e ∙ made) (λ _ t. t)

pub returns-in-None-clause-ok : goal.returns-in-None-clause-ok
returns-in-None-clause-ok g c =
    let made = null_unheld (g.A.Array.column c.args.array.now) c.validity.ensures.is_column
    (sym c.in-None.ensures.mask) in
    MatchResult-weaker c.repeat_mark.result c.repeat_mark.ensures.ok
    (λ marks e. e ∙ ap (λ n. replicate n false) c.len.ensures ∙ made) (λ _ t. t)
