use Rattle.std.proofs.Common.{◌∙◌, ap, ap₂, arith, refl, slice_get, slice_range, Some, sym}
use Rattle.arrow_check.specs.Pieces.{items_of}
use Rattle.arrow_check.proofs.PlaceLemmas.{all-texts, first-unfit, item-at, length-items, no-text, not-all, one-more-text}
use Rattle.arrow_check.proofs.places.first_unfit_text.Goals as goal

pub returns-then-not-is_text_between-clause-none : goal.returns-then-not-is_text_between-clause-none
returns-then-not-is_text_between-clause-none g c =
    let offsets = c.args.offsets.now in
    let bytes = c.as_slice-bytes.result.now in
    let item = slice_range bytes c.start_end-start.result.0 c.start_end-start.result.1 in
    let found = ap (λ bytes. slice_get (items_of offsets bytes) c.loop-i.i) (sym c.as_slice-bytes.ensures)
    ∙ item-at offsets bytes c.loop-i.i (omega (arith, c.len_proxy-i-end.ensures.count))
    ∙ ap₂ (λ a b. Some (slice_range bytes a b)) (sym c.start_end-start.ensures.start)
    (sym c.start_end-start.ensures.end)
    in
    not-all (items_of offsets c.args.values.now) c.loop-i.i item found
    (no-text item c.if-not-is_text_between.ensures)

pub returns-then-not-is_text_between-clause-some : goal.returns-then-not-is_text_between-clause-some
returns-then-not-is_text_between-clause-some g c =
    let offsets = c.args.offsets.now in
    let bytes = c.as_slice-bytes.result.now in
    let item = slice_range bytes c.start_end-start.result.0 c.start_end-start.result.1 in
    let found = ap (λ bytes. slice_get (items_of offsets bytes) c.loop-i.i) (sym c.as_slice-bytes.ensures)
    ∙ item-at offsets bytes c.loop-i.i (omega (arith, c.len_proxy-i-end.ensures.count))
    ∙ ap₂ (λ a b. Some (slice_range bytes a b)) (sym c.start_end-start.ensures.start)
    (sym c.start_end-start.ensures.end)
    in
    first-unfit (items_of offsets c.args.values.now) c.loop-i.i item found
    (no-text item c.if-not-is_text_between.ensures) c.loop-i.invariant

pub loop-i-preserved : goal.loop-i-preserved
loop-i-preserved g c =
    let offsets = c.args.offsets.now in
    let bytes = c.as_slice-bytes.result.now in
    let item = slice_range bytes c.start_end-start.result.0 c.start_end-start.result.1 in
    let found = ap (λ bytes. slice_get (items_of offsets bytes) c.loop-i.i) (sym c.as_slice-bytes.ensures)
    ∙ item-at offsets bytes c.loop-i.i (omega (arith, c.len_proxy-i-end.ensures.count))
    ∙ ap₂ (λ a b. Some (slice_range bytes a b)) (sym c.start_end-start.ensures.start)
    (sym c.start_end-start.ensures.end)
    in
    one-more-text (items_of offsets c.args.values.now) c.loop-i.i item found
    (c.if-not-is_text_between.ensures.0 refl) c.loop-i.invariant

pub returns-clause-none : goal.returns-clause-none
returns-clause-none g c =
    let items = items_of c.args.offsets.now c.args.values.now in (
      λ none. all-texts items c.loop-i.i (omega (
        arith,
        length-items c.args.offsets.now c.args.values.now c.len_proxy-i-end.ensures.legal.some,
        c.len_proxy-i-end.ensures.count,
        c.loop-i-test.false,
      )) c.loop-i.invariant,
      λ texts. refl,
    )
