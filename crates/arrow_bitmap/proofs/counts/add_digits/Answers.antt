use Rattle.std.proofs.Common.{sym, ◌∙◌}
use Rattle.arrow_bitmap.proofs.CountLemmas.{blocks-added}
use Rattle.arrow_bitmap.proofs.counts.add_digits.Goals as goal

pub returns : goal.returns
returns c =
    blocks-added c.args.first c.args.second c.args.third
    (c.fits-second.0 ∙ sym c.fits-first.0)
    (c.fits-third.0 ∙ sym c.fits-first.0)
