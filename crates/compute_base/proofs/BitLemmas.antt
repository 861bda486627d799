-- Lemmas about the bits of words: those of words that are made of others, those from a place on, and all as marks.
use Rattle.std.proofs.Common.{◌≡◌, ℕ, ◌<◌, ◌==◌}
use Rattle.std.proofs.Common.{slice_get, Some, ap, ◌∙◌, arith}
use Rattle.std.specs.Int.{bit_at}
use Rattle.std.proofs.lemmas.List.FromFn.{get_or-map-range_with_len}
use Rattle.std.proofs.lemmas.Option.{slice_get-get_or}
use Rattle.arrow_memory.specs.Marks.{bits_of}
use Rattle.arrow_memory.proofs.CallerLemmas.{length-bits}

-- ---- the bits of a word as marks

pub bits-at : (word n i : ℕ) → i < n → slice_get (bits_of word n) i ≡ Some (bit_at word i == 1)
bits-at word n i low =
    slice_get-get_or (bits_of word n) i (bit_at word i == 1) (omega (arith, low, length-bits word n))
    ∙ ap Some (get_or-map-range_with_len (λ k. bit_at word k == 1) 0 n i i (bit_at word i == 1) low (omega arith))
