use Rattle.std.proofs.Common.{◌≡◌, ◌∙◌, None, Some, ap, arith, refl, sym}
use Rattle.std.specs.Prelude.{count_by, not}
use Rattle.std.proofs.lemmas.Option.{cond_some}
use Rattle.arrow_column.specs.Column.{mask_of, marks_of}
use Rattle.arrow_column.proofs.CallerLemmas.{set-without_mask}
use Rattle.compute_aggregate.proofs.ExtremeLemmas.{set_without_null}
use Rattle.compute_aggregate.proofs.aggregate.extreme.extreme_value.Goals as goal

pub extreme_unmasked-requires : goal.extreme_unmasked-requires
extreme_unmasked-requires g c = λ k.
    let column = g.A.Array.column c.args.array.now in
    let none : mask_of column ≡ None = sym c.in-None.ensures.mask in (
      (refl, tt),
      (
        c.len-rows.ensures,
        λ i low. set-without_mask column c.validity.ensures.is_column none i
            (omega (arith, low, c.len-rows.ensures)),
      ),
    )

pub extreme_unmasked-requires-then-unset_bits-eq0 : goal.extreme_unmasked-requires-then-unset_bits-eq0
extreme_unmasked-requires-then-unset_bits-eq0 g c = λ k.
    let column = g.A.Array.column c.args.array.now in
    let held : mask_of column ≡ Some c.in-Some.mask.now = sym c.in-Some.ensures.mask in
    let same : c.in-Some.mask.now
    ≡ marks_of column = sym (cond_some column.held (marks_of column) c.in-Some.mask.now held).1 in (
      (refl, tt),
      (
        c.len-rows.ensures,
        λ i low. set_without_null column
            (ap (count_by not) (sym same) ∙ sym c.unset_bits.ensures ∙ c.if-unset_bits-eq0.true) i
            (omega (arith, low, c.len-rows.ensures)),
      ),
    )

pub extreme_masked-requires : goal.extreme_masked-requires
extreme_masked-requires g c = λ k.
    let column = g.A.Array.column c.args.array.now in
    let held : mask_of column ≡ Some c.in-Some.mask.now = sym c.in-Some.ensures.mask in
    ((refl, tt), sym (cond_some column.held (marks_of column) c.in-Some.mask.now held).1)
