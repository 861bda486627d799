use Rattle.std.proofs.Common.{sym, ap, refl, slice_get, true≢false, ◌∙◌}
use Rattle.std.specs.Cmp.Lexicographic.{pointwise_decides}
use Rattle.arrow_column.proofs.EqualityLemmas.{whole-agree}
use Rattle.arrow_column.proofs.equality.agree_where.Goals as goal

pub returns-then-eq : goal.returns-then-eq
returns-then-eq g c =
    let decides = pointwise_decides g.met.T.NativeType.same c.args.first.now c.args.second.now in
    let same = decides.0 (sym c.eq.ensures ∙ c.if-eq.true) in
    (λ e i low is. ap (λ xs. slice_get xs i) same, λ agree. refl)

pub returns-then-null_count-eq0 : goal.returns-then-null_count-eq0
returns-then-null_count-eq0 g c =
    let decides = pointwise_decides g.met.T.NativeType.same c.args.first.now c.args.second.now in (
      λ e. absurd (true≢false (sym e)),
      λ agree. sym c.if-eq.false ∙ c.eq.ensures ∙ decides.1 (whole-agree c.args.first.now c.args.second.now
          (g.M.Mask.mask c.args.mask.now) c.requires.fits c.requires.same
          (sym c.null_count.ensures ∙ c.if-null_count-eq0.true) agree),
    )
