use Rattle.arrow_bytes.proofs.CallerLemmas.{column-back}
use Rattle.arrow_byte_array.proofs.AgainLemmas.{are-items, at-end, fits-mask}
use Rattle.arrow_byte_array.proofs.laws.builder_again.Goals as goal

pub returns-clause-end : goal.returns-clause-end
returns-clause-end _ = at-end

pub returns-clause-accepted : goal.returns-clause-accepted
returns-clause-accepted _ = λ text layout wrong_type c none items right.
    (at-end c none, (are-items text c items, (right, (fits-mask c, tt))))

pub returns-clause-same : goal.returns-clause-same
returns-clause-same _ = column-back
