use Rattle.arrow_column.specs.Column.{stored_values}
use Rattle.arrow_bytes.proofs.CallerLemmas.{column-back, within-back}
use Rattle.arrow_column.proofs.CallerLemmas.{parts_fit}
use Rattle.arrow_byte_array.proofs.AgainLemmas.{are-items, fits-mask, items-held}
use Rattle.arrow_byte_array.proofs.laws.array_again.Goals as goal

pub returns-clause-within : goal.returns-clause-within
returns-clause-within _ = λ c. within-back c.around.lead (stored_values c) c.around.tail

pub returns-clause-items : goal.returns-clause-items
returns-clause-items _ = items-held

pub returns-clause-mask : goal.returns-clause-mask
returns-clause-mask _ = parts_fit

pub returns-clause-accepted : goal.returns-clause-accepted
returns-clause-accepted _ = λ text layout wrong_type c items right.
    (within-back c.around.lead (stored_values c) c.around.tail, (are-items text c items, (fits-mask c, (right, tt))))

pub returns-clause-same : goal.returns-clause-same
returns-clause-same _ = column-back
