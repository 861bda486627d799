use Rattle.arrow_byte_array.proofs.GrowthLemmas.{match-growth}
use Rattle.arrow_byte_array.proofs.values_builder.MutableByteValuesArray.from_iter.Goals as goal

pub returns-in-Err-extend-clause-err : goal.returns-in-Err-extend-clause-err
returns-in-Err-extend-clause-err g c =
    let refused = c.in-Err-extend.ensures.err in
    let start = c.in-Ok.ensures.ok in
    match-growth _ _ _ refused.4.2 (λ over. (
      refused.0,
      refused.1,
      refused.2,
      refused.3,
      (rw (← start) refused.4.0, rw (← start, ← refused.4.1) over),
    ))
