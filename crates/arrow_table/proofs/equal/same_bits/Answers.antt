use Rattle.arrow_entry.proofs.CallerLemmas.{same-bits}
use Rattle.arrow_table.proofs.equal.same_bits.Goals as goal

pub returns : goal.returns
returns g c =
    let both = same-bits _ c.args.first.now c.args.second.now in
    (λ is. both.0 (c.eq.ensures.decides.0 is), λ same. c.eq.ensures.decides.1 (both.1 same))
