use Rattle.std.proofs.Common.{arith, [], unwrap_or}
use Rattle.std.proofs.lemmas.List.{length-map}
use Rattle.compute_select.specs.Selects.{slots_chosen}
use Rattle.compute_select.proofs.ChoiceLemmas.{length-slots}
use Rattle.compute_select.proofs.if_then_else.ChosenItemsItemSource.len.Goals as goal

pub returns : goal.returns
returns g c = omega (
  arith,
  c.min.ensures,
  c.min-2.ensures,
  c.len.ensures,
  c.len-2.ensures,
  c.len-3.ensures,
  length-map (slots_chosen c.args.self.now.predicate.now c.args.self.now.lhs.now c.args.self.now.rhs.now)
      (λ item. unwrap_or item []),
  length-slots c.args.self.now.predicate.now.rows c.args.self.now.lhs.now.rows c.args.self.now.rhs.now.rows,
)
