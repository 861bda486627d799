use Rattle.std.proofs.Common.{◌≤◌, ap, length, option_map, subst, sym, ◌∙◌}
use Rattle.std.specs.Prelude.{IfSome}
use Rattle.std.specs.List.{concat}
use Rattle.std.proofs.lemmas.Bool.{ltb-false}
use Rattle.arrow_types.specs.Types.{logical_type}
use Rattle.arrow_check.specs.Indexes.{AllInBounds}
use Rattle.arrow_bytes.specs.Pieces.{Pieces, nothing_around}
use Rattle.arrow_column.specs.Masks.{mask_with_nulls}
use Rattle.arrow_column.specs.Column.{column_with}
use Rattle.arrow_bytes.specs.Selection.{at_keys}
use Rattle.arrow_kernels.proofs.ChoiceLemmas.{fits-picked, makes-taken, marks-below}
use Rattle.arrow_kernels.proofs.take.taken_items.Goals as goal

pub take_items_at-requires-clause-keys : goal.take_items_at-requires-clause-keys
take_items_at-requires-clause-keys g c =
    subst (λ n. AllInBounds g.I.IndexKey.number n c.args.keys.now)
    (sym (ap length c.as_slice.ensures ∙ c.byte_values.ensures.count)) c.requires.keys

pub take_items_at-requires-clause-within : goal.take_items_at-requires-clause-within
take_items_at-requires-clause-within g c =
    subst (λ items. length (concat (at_keys g.I.IndexKey.number c.args.keys.now items)) ≤ g.O.Offset.most)
    (sym (c.as_slice.ensures ∙ c.byte_values.ensures.items)) (ltb-false g.O.Offset.most _ c.requires.within)

pub take_validity-requires : goal.take_validity-requires
take_validity-requires g c =
    let array = c.args.array.now in
    subst (λ mask. IfSome mask (λ marks. AllInBounds g.I.IndexKey.number (length marks) c.args.keys.now))
    (sym c.validity.ensures.mask) (marks-below array g.I.IndexKey.number c.args.keys.now array.held c.requires.keys)

pub from_byte_values-requires-clause-mask : goal.from_byte_values-requires-clause-mask
from_byte_values-requires-clause-mask g c =
    fits-picked c.args.array.now g.I.IndexKey.number c.args.keys.now _ _
    (ap (λ (p : Pieces). p.items) c.in_ok-values.ensures.ok
    ∙ ap (at_keys g.I.IndexKey.number c.args.keys.now) (c.as_slice.ensures ∙ c.byte_values.ensures.items))
    (c.in_ok-mask.ensures.ok
    ∙ ap (λ o. mask_with_nulls (option_map (at_keys g.I.IndexKey.number c.args.keys.now) o))
    c.validity.ensures.mask)

pub returns-clause-ok : goal.returns-clause-ok
returns-clause-ok g c =
    c.from_byte_values.ensures
    ∙ ap (λ around. column_with (logical_type c.in_ok-data_type.data_type) around c.in_ok-values.values.items
    c.in_ok-mask.mask) (ap (λ (p : Pieces). p.around) c.in_ok-values.ensures.ok)
    ∙ makes-taken nothing_around c.args.array.now g.I.IndexKey.number c.args.keys.now _ _ _ c.validity.ensures.is_column
    (c.in_ok-data_type.ensures.cases ∙ c.data_type.ensures.value)
    (ap (λ (p : Pieces). p.items) c.in_ok-values.ensures.ok
    ∙ ap (at_keys g.I.IndexKey.number c.args.keys.now) (c.as_slice.ensures ∙ c.byte_values.ensures.items))
    (c.in_ok-mask.ensures.ok
    ∙ ap (λ o. mask_with_nulls (option_map (at_keys g.I.IndexKey.number c.args.keys.now) o))
    c.validity.ensures.mask)
