use Rattle.std.proofs.Common.{◌++◌, ◌∙◌, ap, sym}
use Rattle.compute_cast.proofs.DecimalLemmas.{digit-text}
use Rattle.compute_cast.proofs.decimals.append_digit.Goals as goal

pub returns : goal.returns
returns c = c.in_ok-push.ensures.items
    ∙ ap (λ text. c.args.bytes.now.items ++ text) (sym (digit-text c.args.digit c.requires))
