use Rattle.std.proofs.Common.{◌∙◌, ap, Some}
use Rattle.compute_cast.proofs.NumberLemmas.{positive-fits, positive-large, small-number}
use Rattle.compute_cast.proofs.number.positive_value.Goals as goal

pub returns-then-value-lt170141183460469231731687303715884105728 :
    goal.returns-then-value-lt170141183460469231731687303715884105728
returns-then-value-lt170141183460469231731687303715884105728 c =
    let small = c.if-value-lt170141183460469231731687303715884105728.true in
    ap Some (small-number c.args.value small) ∙ positive-fits c.args.value small

pub returns-else-value-lt170141183460469231731687303715884105728 :
    goal.returns-else-value-lt170141183460469231731687303715884105728
returns-else-value-lt170141183460469231731687303715884105728 c =
    positive-large c.args.value c.if-value-lt170141183460469231731687303715884105728.false
