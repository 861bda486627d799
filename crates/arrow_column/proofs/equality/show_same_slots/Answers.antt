use Rattle.std.proofs.Common.{◌≡◌, length, sym, ◌∙◌, arith, true≢false}
use Rattle.arrow_column.proofs.AgreeLemmas.{marks-agree, slots-agree, slots-long, values-agree}
use Rattle.arrow_column.proofs.equality.show_same_slots.Goals as goal

pub returns-then-count : goal.returns-then-count
returns-then-count g c =
    let stored = g.V.StoredValues.stored in
    let mask = g.M.Mask.mask in (
      λ e. absurd (true≢false (sym e)),
      λ same. absurd (omega (
        arith,
        c.if-count.true,
        c.count-count.ensures,
        c.count.ensures,
        slots-long (stored c.args.values.now) (stored c.args.others.now) (mask c.args.mask.now)
            (mask c.args.marks.now) c.requires.fits c.requires.others_fit same,
      )),
    )

pub returns-then-not-same_masks : goal.returns-then-not-same_masks
returns-then-not-same_masks g c =
    let stored = g.V.StoredValues.stored in
    let mask = g.M.Mask.mask in
    let same : length (stored c.args.values.now) ≡ length (stored c.args.others.now) =
    omega (arith, c.if-count.false, c.count-count.ensures, c.count.ensures) in (
      λ e. absurd (true≢false (sym e)),
      λ slots. absurd (true≢false
          (sym (c.same_masks.ensures.1 (marks-agree (stored c.args.values.now) (stored c.args.others.now)
          (mask c.args.mask.now) (mask c.args.marks.now) c.count-count.result c.requires.fits
          c.requires.others_fit c.count-count.ensures same slots))
          ∙ c.if-not-same_masks.true)),
    )

pub returns : goal.returns
returns g c =
    let stored = g.V.StoredValues.stored in
    let mask = g.M.Mask.mask in
    let same : length (stored c.args.values.now) ≡ length (stored c.args.others.now) =
    omega (arith, c.if-count.false, c.count-count.ensures, c.count.ensures) in (
      λ e. slots-agree (stored c.args.values.now) (stored c.args.others.now) (mask c.args.mask.now)
          (mask c.args.marks.now) c.count-count.result c.requires.fits c.requires.others_fit
          c.count-count.ensures same (c.same_masks.ensures.0 c.if-not-same_masks.false)
          (c.are_same_where.ensures.0 e),
      λ slots. c.are_same_where.ensures.1 (values-agree (stored c.args.values.now) (stored c.args.others.now)
          (mask c.args.mask.now) (mask c.args.marks.now) c.count-count.result c.requires.fits
          c.requires.others_fit c.count-count.ensures same slots),
    )
