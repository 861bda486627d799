use Rattle.std.proofs.Common.{◌∷◌, ◌++◌, ◌∙◌, sym, ap, map, flat_map, string_bytes, append_assoc}
use Rattle.std.specs.List.{join_with_byte}
use Rattle.std.proofs.lemmas.Result.{on_ok_weaker}
use Rattle.arrow_syntax.proofs.Joined.{joined}
use Rattle.arrow_syntax.proofs.print.push_joined.Goals as goal

pub returns : goal.returns
returns g c =
    let shown = g.P.Part.part_text in
    let old = string_bytes c.args.text.now in
    let first = shown c.in-Some.first.now in
    let others = flat_map (λ x. 32 ∷ shown x) c.in-Some.others.now in
    let all = ap (λ parts. join_with_byte 32 (map shown parts)) c.in-Some.ensures.cases.0
    ∙ joined shown c.in-Some.first.now c.in-Some.others.now in
    on_ok_weaker c.push_others.result
    (λ e. e ∙ ap (λ text. text ++ others) c.in_ok-push_to.ensures ∙ append_assoc old first others
    ∙ ap (λ text. old ++ text) (sym all))
    c.push_others.ensures
