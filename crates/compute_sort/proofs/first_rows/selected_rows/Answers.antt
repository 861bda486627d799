use Rattle.std.proofs.Common.{◌∙◌, ap, arith, take}
use Rattle.std.proofs.lemmas.List.{take-take}
use Rattle.compute_sort.proofs.first_rows.selected_rows.Goals as goal

pub returns : goal.returns
returns g c =
    let sorts = c.in_ok-first.ensures in (
      sorts.whole,
      record { permutation = sorts.permutation; sorted = sorts.sorted },
      c.truncate_to.ensures ∙ ap (take c.args.limit) sorts.is
          ∙ take-take c.args.limit c.max.result sorts.whole (omega arith),
    )
