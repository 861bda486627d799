use Rattle.compute_group.proofs.GroupLemmas.{places_more}
use Rattle.compute_group.proofs.hints.needed_places.Goals as goal

pub returns-then-repeated-groups : goal.returns-then-repeated-groups
returns-then-repeated-groups c =
    places_more c.args.progress.count c.args.places c.requires c.if-places.true c.if-places-count.true
