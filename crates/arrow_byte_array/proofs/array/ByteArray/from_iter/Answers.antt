use Rattle.std.proofs.Common.{◌∙◌, ap}
use Rattle.arrow_column.specs.Column.{without_needless_mask}
use Rattle.arrow_byte_array.proofs.array.ByteArray.from_iter.Goals as goal

pub returns-in-Ok-clause-ok : goal.returns-in-Ok-clause-ok
returns-in-Ok-clause-ok g c =
    let all = c.in_ok-builder.ensures.ok in
    (all.0, all.1, (all.2.0, c.in-Ok.ensures.ok ∙ ap without_needless_mask all.2.1))
