use Rattle.std.proofs.Common.{◌∙◌}
use Rattle.arrow_kernels.proofs.JoinLemmas.{concatenates, fits-joined, makes-joined}
use Rattle.arrow_kernels.proofs.concat.concat_primitive.Goals as goal

pub new-requires-clause-mask : goal.new-requires-clause-mask
new-requires-clause-mask g c = fits-joined c.args.arrays.now _ _ (c.in_ok-from_vec.ensures.ok
    ∙ c.in_ok-values.ensures.ok) c.in_ok-mask.ensures.ok

pub returns-clause-ok : goal.returns-clause-ok
returns-clause-ok g c =
    let first = c.index-arrays-0.result in
    concatenates tt c.args.arrays.now first _ c.requires c.index-arrays-0.is (
    c.new.ensures
    ∙ makes-joined tt first c.args.arrays.now _ _ _ (c.in_ok-data_type.ensures.cases ∙ c.data_type.ensures.value)
    (c.in_ok-from_vec.ensures.ok ∙ c.in_ok-values.ensures.ok) c.in_ok-mask.ensures.ok
    )
