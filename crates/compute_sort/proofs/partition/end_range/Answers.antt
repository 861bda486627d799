use Rattle.std.proofs.Common.{◌∙◌, ◌++◌, [], if◌then◌else◌, ap, sym}
use Rattle.compute_sort.specs.Partition.{one_range}
use Rattle.compute_sort.proofs.partition.end_range.Goals as goal

pub returns-then-differs-clause-start : goal.returns-then-differs-clause-start
returns-then-differs-clause-start c = ap (λ b. if b then c.args.i else c.args.start) (sym c.if-differs.true)

pub returns-then-differs-clause-ranges : goal.returns-then-differs-clause-ranges
returns-then-differs-clause-ranges c =
    c.in_ok-push.ensures.items
    ∙ ap (λ b. c.args.ranges.now.items ++ (if b then one_range c.args.start c.args.i else [])) (sym c.if-differs.true)
