use Rattle.arrow_column.specs.Column.{slots_of}
use Rattle.compute_select.specs.Selects.{slots_null_if}
use Rattle.compute_select.proofs.NullLemmas.{stores-differing}
use Rattle.compute_select.proofs.ShownLemmas.{fits-rows, masked-shown}
use Rattle.compute_select.proofs.nullif.nullif_primitive.Goals as goal

pub with_validity-requires : goal.with_validity-requires
with_validity-requires g c =
    let eq = g.T.PartialEq.eq in
    let lhs = c.args.lhs.now in
    fits-rows lhs _ (slots_null_if eq (slots_of lhs) (slots_of c.args.rhs.now)) _ c.in_ok-clone.ensures.ok
    c.in_ok-mask.ensures.ok (stores-differing eq lhs.rows c.args.rhs.now.rows c.requires)

pub returns-clause-ok : goal.returns-clause-ok
returns-clause-ok g c =
    let eq = g.T.PartialEq.eq in
    let lhs = c.args.lhs.now in
    masked-shown lhs _ _ (slots_null_if eq (slots_of lhs) (slots_of c.args.rhs.now)) _ c.in_ok-clone.ensures.ok
    c.with_validity.ensures c.in_ok-mask.ensures.ok (stores-differing eq lhs.rows c.args.rhs.now.rows c.requires)
