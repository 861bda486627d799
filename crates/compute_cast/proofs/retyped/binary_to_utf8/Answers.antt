use Rattle.std.proofs.Common.{◌∙◌, ap, inr}
use Rattle.std.proofs.lemmas.Result.{MatchResult-weaker}
use Rattle.arrow_types.specs.Types.{logical_type, refusal}
use Rattle.arrow_column.specs.Column.{with_type}
use Rattle.arrow_bytes.specs.Column.{byte_column}
use Rattle.compute_cast.proofs.RetypeLemmas.{text_passes, text_refused}
use Rattle.compute_cast.proofs.retyped.binary_to_utf8.Goals as goal

pub returns-clause-ok : goal.returns-clause-ok
returns-clause-ok g c =
    let t = logical_type c.args.data_type in
    let o = c.in_ok-offsets.ensures.ok ∙ c.offsets.ensures in
    let b = c.in_ok-values.ensures.ok ∙ c.values.ensures.value in
    let m = c.in_ok-validity.ensures.ok ∙ c.validity.ensures.mask in
    MatchResult-weaker c.try_new.result c.try_new.ensures.ok (λ made fine. (
      text_passes c.args.array.now g.O.Offset.IS_LARGE t c.in_ok-offsets.offsets c.in_ok-values.values
          c.in_ok-validity.validity o b m fine.0,
      fine.1 ∙ (λ i. byte_column t (o i) (b i) (m i))
          ∙ ap (λ column. with_type column t) (c.array_again.ensures.same c.args.array.now c.validity.ensures.is_column),
    )) (λ _ t. t)

pub returns-clause-err : goal.returns-clause-err
returns-clause-err g c =
    MatchResult-weaker c.try_new.result c.try_new.ensures.err (λ _ t. t) (λ e failure. inr (text_refused
    c.args.array.now g.O.Offset.IS_LARGE (logical_type c.args.data_type) c.in_ok-offsets.offsets c.in_ok-values.values
    c.in_ok-validity.validity (c.in_ok-offsets.ensures.ok ∙ c.offsets.ensures)
    (c.in_ok-values.ensures.ok ∙ c.values.ensures.value) (c.in_ok-validity.ensures.ok ∙ c.validity.ensures.mask)
    c.array_again.ensures.accepted (refusal e) failure))
