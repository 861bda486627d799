use Rattle.std.specs.Ordering.{is_le, ord_min}
use Rattle.arrow_column.specs.Column.{slots_of}
use Rattle.compute_aggregate.proofs.FoldLemmas.{best_valid}
use Rattle.compute_aggregate.proofs.AggregateLemmas.{chooses_min}
use Rattle.compute_aggregate.proofs.aggregate.numbers.min_primitive.Goals as goal

pub returns-in-Some : goal.returns-in-Some
returns-in-Some g c =
    let best = best_valid (λ best x. is_le (g.T.Ord.cmp best x)) (ord_min g.T.Ord.cmp) (chooses_min g.T.Ord.cmp g.met.T.Ord.total)
    c.in-Some.first (slots_of c.args.array.now) c.fold_slots.result c.in-Some.ensures c.fold_slots.ensures in
    record { member = best.member; bound = best.bound }
