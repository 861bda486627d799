use Rattle.arrow_bitmap.proofs.MarkLemmas.{top_set-kept, top_set, top_clear-kept, top_clear}
use Rattle.arrow_bitmap.proofs.bits.with_top.Goals as goal

pub returns-then-value-clause-kept : goal.returns-then-value-clause-kept
returns-then-value-clause-kept c = top_set-kept c.args.byte c.args.from c.requires

pub returns-then-value-clause-top : goal.returns-then-value-clause-top
returns-then-value-clause-top c = λ k past low.
    rw c.if-value.true (top_set c.args.byte c.args.from c.requires k past low)

pub returns-else-value-clause-kept : goal.returns-else-value-clause-kept
returns-else-value-clause-kept c = top_clear-kept c.args.byte c.args.from c.requires

pub returns-else-value-clause-top : goal.returns-else-value-clause-top
returns-else-value-clause-top c = λ k past low.
    rw c.if-value.false (top_clear c.args.byte c.args.from c.requires k past low)
