use Rattle.std.proofs.Common.{sym, ◌∙◌, replicate, ap, true}
use Rattle.std.proofs.lemmas.Result.{MatchResult-weaker}
use Rattle.compute_comparison.proofs.NullLemmas.{valid_held, valid_unheld}
use Rattle.compute_comparison.proofs.boolean.valid_marks.Goals as goal

pub returns-in-Some-clause-ok : goal.returns-in-Some-clause-ok
returns-in-Some-clause-ok g c =
    let made = valid_held (g.A.Array.column c.args.array.now) c.in-Some.mask.now (sym c.in-Some.ensures.mask) in
    MatchResult-weaker c.clone.result c.clone.ensures.ok (λ marks e. e ∙ made) (λ _ t. t)

pub returns-in-None-clause-ok : goal.returns-in-None-clause-ok
returns-in-None-clause-ok g c =
    let made = valid_unheld (g.A.Array.column c.args.array.now) c.validity.ensures.is_column
    (sym c.in-None.ensures.mask) in
    MatchResult-weaker c.repeat_mark.result c.repeat_mark.ensures.ok
    (λ marks e. e ∙ ap (λ n. replicate n true) c.len.ensures ∙ made) (λ _ t. t)
