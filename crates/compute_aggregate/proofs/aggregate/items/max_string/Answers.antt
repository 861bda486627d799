use Rattle.std.specs.Cmp.Lexicographic.{nat_list_cmp_total, slice_cmp}
use Rattle.std.specs.Ordering.{nat_cmp}
use Rattle.compute_aggregate.proofs.ExtremeLemmas.{greatest_seen}
use Rattle.compute_aggregate.proofs.aggregate.items.max_string.Goals as goal

pub returns : goal.returns
returns g c =
    greatest_seen (λ item. item.now) (slice_cmp nat_cmp) nat_list_cmp_total c.args.array.now c.extreme_value.result
    c.extreme_value.ensures
