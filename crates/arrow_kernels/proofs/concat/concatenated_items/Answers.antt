use Rattle.std.proofs.Common.{ap, ◌∙◌}
use Rattle.std.proofs.lemmas.Bool.{ltb-false}
use Rattle.arrow_types.specs.Types.{logical_type}
use Rattle.arrow_bytes.specs.Pieces.{Pieces, nothing_around}
use Rattle.arrow_column.specs.Column.{column_with}
use Rattle.arrow_kernels.proofs.JoinLemmas.{concatenates, fits-joined, makes-joined}
use Rattle.arrow_kernels.proofs.concat.concatenated_items.Goals as goal

pub concat_byte_values-requires : goal.concat_byte_values-requires
concat_byte_values-requires g c = ltb-false g.O.Offset.most _ c.requires.within

pub from_byte_values-requires-clause-mask : goal.from_byte_values-requires-clause-mask
from_byte_values-requires-clause-mask g c = fits-joined c.args.arrays.now _ _
    (ap (λ (p : Pieces). p.items) c.in_ok-values.ensures.ok) c.in_ok-mask.ensures.ok

pub returns-clause-ok : goal.returns-clause-ok
returns-clause-ok g c =
    let first = c.index-arrays-0.result in
    concatenates nothing_around c.args.arrays.now first _ c.requires.some c.index-arrays-0.is (
    c.from_byte_values.ensures
    ∙ ap (λ around. column_with (logical_type c.in_ok-data_type.data_type) around c.in_ok-values.values.items
    c.in_ok-mask.mask) (ap (λ (p : Pieces). p.around) c.in_ok-values.ensures.ok)
    ∙ makes-joined nothing_around first c.args.arrays.now _ _ _ (c.in_ok-data_type.ensures.cases
    ∙ c.data_type.ensures.value) (ap (λ (p : Pieces). p.items) c.in_ok-values.ensures.ok) c.in_ok-mask.ensures.ok
    )
