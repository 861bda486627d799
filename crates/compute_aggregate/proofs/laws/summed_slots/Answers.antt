use Rattle.std.proofs.Common.{◌∙◌, ap}
use Rattle.std.specs.List.{filter_map}
use Rattle.std.proofs.lemmas.List.Elements.{filter_map-append}
use Rattle.arrow_column.specs.Column.{slots_of}
use Rattle.compute_aggregate.proofs.LawLemmas.{no-sum, one-sum, sum-joined}
use Rattle.compute_aggregate.proofs.laws.summed_slots.Goals as goal

pub returns-clause-joined : goal.returns-clause-joined
returns-clause-joined g c = sum-joined

pub returns-clause-values : goal.returns-clause-values
returns-clause-values g c = λ column first second is.
    ap (filter_map (λ slot. slot)) is ∙ filter_map-append (λ slot. slot) (slots_of first) (slots_of second)

pub returns-clause-none : goal.returns-clause-none
returns-clause-none g c = no-sum

pub returns-clause-some : goal.returns-clause-some
returns-clause-some g c = one-sum
