use Rattle.std.proofs.Common.{◌-◌, arith, length}
use Rattle.std.proofs.lemmas.List.{length-take-le}
use Rattle.arrow_memory.specs.Offsets.{first_of}
use Rattle.arrow_bytes.proofs.PieceLemmas.{bytes-again, offsets-again}
use Rattle.arrow_bytes.proofs.laws.pieces_of_bytes.Goals as goal

pub returns-clause-bytes : goal.returns-clause-bytes
returns-clause-bytes c = bytes-again

pub returns-clause-lead : goal.returns-clause-lead
returns-clause-lead c = λ offsets bytes legal within.
    length-take-le (first_of offsets) bytes
    (omega (arith, legal.order 0 (length offsets - 1) (omega arith) (omega (arith, legal.some)), within))

pub returns-clause-offsets : goal.returns-clause-offsets
returns-clause-offsets c = offsets-again
