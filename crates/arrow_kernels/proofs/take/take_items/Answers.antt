use Rattle.std.proofs.Common.{◌≡◌, ◌<◌, ap, arith, length, subst, sym, ◌∙◌}
use Rattle.std.specs.List.{concat}
use Rattle.std.proofs.lemmas.Bool.{le-ltb, lt-ltb}
use Rattle.std.proofs.lemmas.Result.{MatchResult-weaker}
use Rattle.arrow_types.specs.Types.{refusal}
use Rattle.arrow_types.proofs.CallerLemmas.{on-residual}
use Rattle.arrow_check.specs.Indexes.{AllInBounds, key_refusal}
use Rattle.arrow_bytes.specs.Selection.{TakeRefused, at_keys}
use Rattle.arrow_column.specs.Column.{refused_growth, stored_values}
use Rattle.arrow_kernels.proofs.ChoiceLemmas.{not-out_of_bounds}
use Rattle.arrow_kernels.proofs.take.take_items.Goals as goal

pub returns-in_err-check_indexes-clause-err : goal.returns-in_err-check_indexes-clause-err
returns-in_err-check_indexes-clause-err g c =
    not-out_of_bounds c.args.array.now g.I.IndexKey.number c.args.keys.now _ (λ key.
    refusal c.in_err-check_indexes.field-0.0 ≡ key_refusal (g.I.IndexKey.number key)) _ c.from_residual.result
    c.len.ensures
    c.in_err-check_indexes.ensures.first

pub items_length-requires : goal.items_length-requires
items_length-requires g c = subst (λ n. AllInBounds g.I.IndexKey.number n c.args.keys.now)
    (c.len.ensures ∙ sym (ap length c.as_slice.ensures ∙ c.byte_values.ensures.count)) c.in_ok-check_indexes.ensures.ok

pub returns-in_err-room-clause-err : goal.returns-in_err-room-clause-err
returns-in_err-room-clause-err g c =
    let number = g.I.IndexKey.number in
    let keys = c.args.keys.now in
    let items = c.as_slice.ensures ∙ c.byte_values.ensures.items in
    let long : g.O.Offset.most < length (concat (at_keys number keys (stored_values c.args.array.now))) = omega (
      arith,
      c.in_err-room.ensures.over,
      ap (λ xs. length (concat (at_keys number keys xs))) items,
    ) in
    on-residual c.from_residual-in_err-room.result c.in_err-room.field-0.0 (TakeRefused g.O.Offset.most number c.args.array.now keys)
    c.from_residual-in_err-room.ensures.1 (λ none. c.in_err-room.ensures.err
    ∙ ap refused_growth (sym (lt-ltb g.O.Offset.most _ long)))

pub taken_items-requires-clause-within : goal.taken_items-requires-clause-within
taken_items-requires-clause-within g c =
    let items = c.as_slice.ensures ∙ c.byte_values.ensures.items in
    le-ltb g.O.Offset.most _ (omega (
      arith,
      c.in_ok-room.ensures.ok,
      ap (λ xs. length (concat (at_keys g.I.IndexKey.number c.args.keys.now xs))) items,
    ))

pub returns-clause-ok : goal.returns-clause-ok
returns-clause-ok g c =
    let items = c.as_slice.ensures ∙ c.byte_values.ensures.items in
    let fits = le-ltb g.O.Offset.most _ (omega (
      arith,
      c.in_ok-room.ensures.ok,
      ap (λ xs. length (concat (at_keys g.I.IndexKey.number c.args.keys.now xs))) items,
    )) in
    MatchResult-weaker c.taken_items.result c.taken_items.ensures.ok (λ made e. (fits, e)) (λ _ t. t)

pub returns-clause-err : goal.returns-clause-err
returns-clause-err g c =
    let items = c.as_slice.ensures ∙ c.byte_values.ensures.items in
    let fits = le-ltb g.O.Offset.most _ (omega (
      arith,
      c.in_ok-room.ensures.ok,
      ap (λ xs. length (concat (at_keys g.I.IndexKey.number c.args.keys.now xs))) items,
    )) in
    MatchResult-weaker c.taken_items.result c.taken_items.ensures.err (λ _ t. t)
    (λ e m none. m ∙ sym (ap refused_growth fits))
