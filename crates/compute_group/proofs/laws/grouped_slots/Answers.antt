use Rattle.std.proofs.Common.{◌<◌, ◌∙◌, arith, length}
use Rattle.std.proofs.lemmas.List.{length-map}
use Rattle.std.proofs.lemmas.List.Elements.{All-from_get_or}
use Rattle.std.proofs.lemmas.Option.{slice_get-get_or, slice_get_within}
use Rattle.arrow_memory.specs.Rows.{slot}
use Rattle.compute_group.proofs.laws.grouped_slots.Goals as goal

pub returns-clause-count : goal.returns-clause-count
returns-clause-count g c = λ column first numbers groups. groups.count ∙ length-map column.rows slot

pub returns-clause-numbers : goal.returns-clause-numbers
returns-clause-numbers g c = λ column first numbers groups. All-from_get_or (λ number. number < length first) numbers 0 (λ i low.
    let group = groups.members i _ (slice_get-get_or numbers i 0 low) in
    slice_get_within first _ group.0 group.1)

pub returns-clause-first : goal.returns-clause-first
returns-clause-first g c = λ column first numbers groups. All-from_get_or (λ place. place < length column.rows) first 0 (λ g low.
    let within = groups.within g _ (slice_get-get_or first g 0 low) in
    omega (arith, within, length-map column.rows slot))
