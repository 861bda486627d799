use Rattle.itoa.proofs.Decimal.{signed_wide}
use Rattle.compute_cast.proofs.decimals.append_number.Goals as goal

pub returns-in-Ok-clause-ascii : goal.returns-in-Ok-clause-ascii
returns-in-Ok-clause-ascii c = (signed_wide c.args.number c.ranges.number).0

pub returns-in-Ok-2-clause-ascii : goal.returns-in-Ok-2-clause-ascii
returns-in-Ok-2-clause-ascii c = (signed_wide c.args.number c.ranges.number).0

pub returns-in-Err-clause-ascii : goal.returns-in-Err-clause-ascii
returns-in-Err-clause-ascii c = (signed_wide c.args.number c.ranges.number).0
