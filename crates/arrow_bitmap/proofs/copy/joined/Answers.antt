use Rattle.arrow_bitmap.proofs.CopyLemmas.{joined-kept, joined-put}
use Rattle.arrow_bitmap.proofs.copy.joined.Goals as goal

pub returns-clause-kept : goal.returns-clause-kept
returns-clause-kept c = joined-kept c.args.byte c.args.from c.args.above c.requires

pub returns-clause-put : goal.returns-clause-put
returns-clause-put c = joined-put c.args.byte c.args.from c.args.above c.requires
