use Rattle.std.proofs.Common.{◌<◌, [], ◌∷◌, length, rules, subst₂, arith}
use Rattle.std.proofs.lemmas.Result.{err_from_is_err_and}
use Rattle.arrow_types.specs.Types.{out_of_memory}
use Rattle.arrow_entry.specs.Entry.{state_of}
use Rattle.arrow_entry.proofs.CallerLemmas.{got}
use Rattle.arrow_model.specs.declared.kind.Kind.{Kind}
use Rattle.arrow_model.specs.Answer.{not_met, outcome, refused}
use Rattle.arrow_model.specs.Kind.{shape}
use Rattle.arrow_model.specs.Request.{Source, make, source_of}
use Rattle.arrow_model.specs.Run.{CostsAtMost}
use Rattle.arrow_model.specs.Step.{Changes, Makes, StepCosts}
use Rattle.arrow_model.specs.Value.{types}
use Rattle.arrow_creation.proofs.Steps.{empty-stays, filled-unmet}
use Rattle.arrow_creation.proofs.parts.lent_parts_at.Goals as goal

pub returns-then-is_some-clause-step : goal.returns-then-is_some-clause-step
returns-then-is_some-clause-step g c =
    let known = types g.T.NativeType.zero g.T.NativeType.PRIMITIVE g.O.Offset.most g.O.Offset.IS_LARGE in
    let given = c.args.given.now in
    let entries = c.args.entries.now.items in
    let within : c.args.e < length entries = omega arith in
    filled-unmet (Makes known (shape given.kind) (source_of g.O.Offset.number given)) entries c.args.e
    c.index.result.now (got entries c.args.e c.index.result.now c.index.result.now within c.index.ensures)
    (search rules)

pub returns-then-not-fits_kind-clause-step : goal.returns-then-not-fits_kind-clause-step
returns-then-not-fits_kind-clause-step g c =
    let known = types g.T.NativeType.zero g.T.NativeType.PRIMITIVE g.O.Offset.most g.O.Offset.IS_LARGE in
    let given = c.args.given.now in
    let entries = c.args.entries.now.items in
    let within : c.args.e < length entries = omega arith in
    empty-stays (Makes known (shape given.kind) (source_of g.O.Offset.number given)) entries c.args.e
    c.index.result.now (got entries c.args.e c.index.result.now c.index.result.now within c.index.ensures)
    not_met (search rules) (c.fits_kind.ensures.not (search rules))

-- what is made of a copy is made of the original
pub returns-clause-step : goal.returns-clause-step
returns-clause-step g c =
    let known = types g.T.NativeType.zero g.T.NativeType.PRIMITIVE g.O.Offset.most g.O.Offset.IS_LARGE in
    let copied = c.in_ok-copy.ensures in
    subst₂ (λ (kind : Kind) (source : Source _). Changes known (state_of c.args.entries.now.items)
    (make c.args.e (shape kind) source) (outcome c.parts_at.result) (state_of c.parts_at.new.entries.items))
    copied.kind copied.source c.parts_at.ensures.step

pub returns-clause-exact : goal.returns-clause-exact
returns-clause-exact g c =
    let copied = c.in_ok-copy.ensures in
    subst₂ (λ (kind : Kind) (source : Source _). StepCosts (make c.args.e (shape kind) source)
    (outcome c.parts_at.result) c.args.cost.now c.parts_at.new.cost) copied.kind copied.source
    c.parts_at.ensures.exact

pub returns-clause-most : goal.returns-clause-most
returns-clause-most g c =
    let copied = c.in_ok-copy.ensures in
    subst₂ (λ (kind : Kind) (source : Source _). CostsAtMost (make c.args.e (shape kind) source ∷ [])
    c.args.cost.now c.parts_at.new.cost) copied.kind copied.source c.parts_at.ensures.most

-- a copy that fails is refused, and the entry stays empty
pub returns-in_err-copy-clause-step : goal.returns-in_err-copy-clause-step
returns-in_err-copy-clause-step g c =
    let known = types g.T.NativeType.zero g.T.NativeType.PRIMITIVE g.O.Offset.most g.O.Offset.IS_LARGE in
    let given = c.args.given.now in
    let entries = c.args.entries.now.items in
    let within : c.args.e < length entries = omega arith in
    let p = err_from_is_err_and c.from_residual.result c.from_residual.ensures.1 in
    rw (p.1, p.2) (
    empty-stays (Makes known (shape given.kind) (source_of g.O.Offset.number given)) entries c.args.e
    c.index.result.now (got entries c.args.e c.index.result.now c.index.result.now within c.index.ensures)
    (refused out_of_memory) (search rules) (c.fits_kind.ensures.met (search rules))
    )
