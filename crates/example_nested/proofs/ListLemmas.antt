-- Lemmas about lists that offsets cut out of slots.
use Rattle.std.proofs.Common.{◌≡◌, ℕ, ◌+◌, Bool, List, length}
use Rattle.std.proofs.Common.{Option, arith}
use Rattle.dethrugn.specs.Validation.{Passes}
use Rattle.dethrugn.specs.Offsets.{IsOffsets}
use Rattle.dethrugn.specs.Pieces.{items_of}
use Rattle.dethrugn.proofs.CallerLemmas.Bytes.{item-at, length-items}
use Rattle.dethrugn.proofs.CallerLemmas.Column.{bare-marks, held-marks, length-rows, null-at}
use Rattle.dethrugn.proofs.CallerLemmas.Column.{stored-rows}
use Rattle.dethrugn.proofs.CallerLemmas.Types.{no-clear, set-mark}
use Rattle.example_nested.specs.Lists.{list_tests, lists_of}

-- there is a list fewer than offsets
pub length-lists : {S : Type 0} (offsets : List ℕ) (slots : List (Option S)) (mask : Option (List Bool))
    → IsOffsets offsets → Passes (list_tests offsets slots mask)
    → length (lists_of offsets slots mask) + 1 ≡ length offsets
length-lists offsets slots mask legal passes = omega (
  arith,
  length-rows (items_of offsets slots) mask passes.1.0,
  length-items offsets slots legal.some,
)

pub ruleset list_steps = (
  item-at,
  length-items,
  length-rows,
  stored-rows,
  held-marks,
  bare-marks,
  set-mark,
  null-at,
  no-clear,
)
