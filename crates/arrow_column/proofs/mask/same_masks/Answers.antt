use Rattle.std.proofs.Common.{◌≡◌, None, sym, ap, ◌∙◌}
use Rattle.std.proofs.lemmas.Bool.{eqb-true, eq-eqb}
use Rattle.arrow_column.proofs.AgreeLemmas.{bare-by_count}
use Rattle.arrow_column.proofs.mask.same_masks.Goals as goal

pub returns-in-None-second : goal.returns-in-None-second
returns-in-None-second g c =
    let none : g.M.Mask.mask c.args.second.now ≡ None = ap g.M.Mask.mask c.in-None-second.is ∙ g.met.M.Mask.no_mask in
    let bare = bare-by_count (g.M.Mask.mask c.args.first.now) c.args.count c.requires.first in
    let nulls = c.null_count in
    rw none (
      λ e. sym (bare.0 (sym nulls.ensures ∙ eqb-true nulls.result 0 e)),
      λ same. eq-eqb nulls.result 0 (nulls.ensures ∙ bare.1 (sym same)),
    )

pub returns-in-None : goal.returns-in-None
returns-in-None g c =
    let none : g.M.Mask.mask c.args.first.now ≡ None = ap g.M.Mask.mask c.in-None.is ∙ g.met.M.Mask.no_mask in
    let bare = bare-by_count (g.M.Mask.mask c.args.second.now) c.args.count c.requires.second in
    let nulls = c.null_count-in-None in
    rw none (
      λ e. bare.0 (sym nulls.ensures ∙ eqb-true nulls.result 0 e),
      λ same. eq-eqb nulls.result 0 (nulls.ensures ∙ bare.1 same),
    )
