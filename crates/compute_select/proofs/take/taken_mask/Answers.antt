use Rattle.std.proofs.Common.{◌≡◌, ◌∙◌, None, Some, ap, length, subst, sym}
use Rattle.std.specs.List.{filter_map}
use Rattle.std.proofs.lemmas.Result.{MatchResult-weaker}
use Rattle.std.proofs.lemmas.Option.{cond_some}
use Rattle.arrow_check.specs.Indexes.{AllInBounds}
use Rattle.arrow_column.specs.Column.{mask_of, marks_of}
use Rattle.arrow_column.specs.Masks.{mask_with_nulls}
use Rattle.arrow_column.proofs.CallerLemmas.{parts_again, valid_by_held}
use Rattle.arrow_memory.specs.Rows.{slot}
use Rattle.compute_select.specs.Selects.{marks_at_keys}
use Rattle.compute_select.proofs.KeyLemmas.{marks-bare, marks-taken, none-needed}
use Rattle.compute_select.proofs.take.taken_mask.Goals as goal

pub returns-in-Some-clause-ok : goal.returns-in-Some-clause-ok
returns-in-Some-clause-ok g c =
    let number = g.K.IndexKey.number in
    let column = g.A.Array.column c.args.array.now in
    let keys = c.args.keys.now in
    let marks = (cond_some column.held (marks_of column) c.in-Some.marks.now (sym c.in-Some.ensures.mask)).1 in
    MatchResult-weaker c.collect_mask.result c.collect_mask.ensures.ok (λ mask e.
    e ∙ ap (λ ms. mask_with_nulls (Some (marks_at_keys number ms keys))) (sym marks)
    ∙ ap (λ ms. mask_with_nulls (Some ms)) (marks-taken number column.rows keys.rows)) (λ _ t. t)

pub returns-in-Some-2-clause-ok : goal.returns-in-Some-2-clause-ok
returns-in-Some-2-clause-ok g c =
    let number = g.K.IndexKey.number in
    let column = g.A.Array.column c.args.array.now in
    let keys = c.args.keys.now in
    let all = subst (λ rows. AllInBounds number (length column.rows) (filter_map slot rows))
    (ap (λ col. col.rows) (parts_again keys c.validity-in-None.ensures.is_column)) c.requires in
    let valid = valid_by_held column.held column.rows c.validity.ensures.is_column (sym c.in-None.ensures.mask) in
    let held : mask_of keys ≡ Some c.in-Some-2.marks =
    sym (c.in_ok-marks-in-None.ensures.ok ∙ c.validity-in-None.ensures.mask) ∙ c.in-Some-2.is in
    c.needed_mask.ensures
    ∙ ap (λ ms. mask_with_nulls (Some ms)) (sym (cond_some keys.held (marks_of keys) c.in-Some-2.marks held).1
    ∙ marks-bare number column.rows keys.rows valid all)

pub returns-in-None-2-clause-ok : goal.returns-in-None-2-clause-ok
returns-in-None-2-clause-ok g c =
    let number = g.K.IndexKey.number in
    let column = g.A.Array.column c.args.array.now in
    let keys = c.args.keys.now in
    let all = subst (λ rows. AllInBounds number (length column.rows) (filter_map slot rows))
    (ap (λ col. col.rows) (parts_again keys c.validity-in-None.ensures.is_column)) c.requires in
    let valid = valid_by_held column.held column.rows c.validity.ensures.is_column (sym c.in-None.ensures.mask) in
    let bare : mask_of keys ≡ None =
    sym (c.in_ok-marks-in-None.ensures.ok ∙ c.validity-in-None.ensures.mask) ∙ c.in-None-2.is in
    none-needed keys.rows (valid_by_held keys.held keys.rows c.validity-in-None.ensures.is_column bare)
    ∙ ap (λ ms. mask_with_nulls (Some ms)) (marks-bare number column.rows keys.rows valid all)
