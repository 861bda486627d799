use Rattle.std.proofs.Common.{Some, ◌&&◌, ap, ◌∙◌}
use Rattle.arrow_column.proofs.CallerLemmas.{both-at, both-clear}
use Rattle.arrow_boolean.proofs.true_count.is_set_in_both.Goals as goal

pub returns-then-get_bit : goal.returns-then-get_bit
returns-then-get_bit c =
    let value = c.get_bit-then-get_bit.result in
    both-at c.args.values.now c.args.validity.now c.args.i value c.get_bit.result c.get_bit-then-get_bit.ensures
    c.get_bit.ensures
    ∙ ap (λ mark. Some (mark && value)) c.if-get_bit.true

pub returns-else-get_bit : goal.returns-else-get_bit
returns-else-get_bit c = both-clear c.args.values.now c.args.validity.now c.args.i c.get_bit.result
    c.get_bit.ensures c.if-get_bit.false c.requires.within
