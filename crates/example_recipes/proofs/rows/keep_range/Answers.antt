use Rattle.std.proofs.Common.{◌∙◌, ap, slice_get}
use Rattle.dethrugn.specs.Column.{slots_of}
use Rattle.dethrugn.specs.Around.{around_cut}
use Rattle.example_recipes.proofs.rows.keep_range.Goals as goal

pub returns-clause-each : goal.returns-clause-each
returns-clause-each c = λ i within. ap (λ column. slice_get (slots_of column) i) c.slice.ensures
    ∙ c.cut_slots.ensures.slot around_cut c.args.names.now c.args.offset c.args.len i within
