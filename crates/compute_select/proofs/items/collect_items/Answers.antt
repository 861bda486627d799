use Rattle.std.proofs.Common.{◌≤◌, ◌<◌, ◌∙◌, arith, length, subst, sym}
use Rattle.std.specs.Prelude.{⊤}
use Rattle.std.specs.List.{concat}
use Rattle.std.proofs.lemmas.Result.{MatchResult-weaker}
use Rattle.arrow_memory.specs.Offsets.{MatchGrowth}
use Rattle.compute_select.proofs.items.collect_items.Goals as goal

pub push_items-requires : goal.push_items-requires
push_items-requires g c = omega (arith, c.in_ok-room.ensures.ok.0, c.in_ok-room.ensures.ok.1)

pub returns-clause-ok : goal.returns-clause-ok
returns-clause-ok g c = MatchResult-weaker c.freeze.result c.freeze.ensures.ok
    (λ frozen e. e ∙ c.in_ok-push_items.ensures.ok) (λ _ t. t)

pub returns-clause-fits : goal.returns-clause-fits
returns-clause-fits g c =
    let fits : length (concat (g.S.ItemSource.items c.args.source.now)) ≤ g.O.Offset.most =
    omega (arith, c.in_ok-room.ensures.ok.0, c.in_ok-room.ensures.ok.1) in
    MatchResult-weaker c.freeze.result c.freeze.ensures.ok (λ _ _. fits) (λ _ t. t)

pub returns-clause-err : goal.returns-clause-err
returns-clause-err g c = MatchResult-weaker c.freeze.result c.freeze.ensures.err (λ _ t. t)
    (λ e is. subst (λ x. MatchGrowth x (g.O.Offset.most < length (concat (g.S.ItemSource.items c.args.source.now))) ⊤)
    (sym is) tt)
