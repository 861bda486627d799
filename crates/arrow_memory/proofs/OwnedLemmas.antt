-- The rules of pieces of a list that lose an end.
use Rattle.std.proofs.lemmas.Option.{slice_get_read}
use Rattle.arrow_types.proofs.CallerLemmas.{between-first, between-last, between-none, length-between}

pub ruleset owned_steps = (between-none, between-first, between-last, length-between, slice_get_read)
