use Rattle.std.proofs.Common.{ap, ◌∙◌, option_map, slice_get}
use Rattle.std.specs.Prelude.{option_and_then}
use Rattle.std.specs.Option.{option_flatten}
use Rattle.std.proofs.lemmas.Option.{slice_get-map}
use Rattle.example_nested.proofs.laws.slot_by_index.Goals as goal

pub returns : goal.returns
returns g c = λ dictionary i index e.
    let look = option_and_then (λ k. option_flatten (slice_get dictionary.values k)) in
    slice_get-map look dictionary.keys i ∙ ap (option_map look) e
