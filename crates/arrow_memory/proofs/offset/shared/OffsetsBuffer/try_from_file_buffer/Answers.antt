use Rattle.std.proofs.Common.{◌≡◌, map, None, pos, sym, ap, ◌∙◌}
use Rattle.std.proofs.lemmas.Result.{IfOk-weaker}
use Rattle.arrow_memory.specs.Offsets.{file_offsets, first_fault, numbers_of}
use Rattle.arrow_memory.proofs.OffsetLemmas.{faultless-whole, file-same}
use Rattle.arrow_memory.proofs.offset.shared.OffsetsBuffer.try_from_file_buffer.Goals as goal

pub returns-clause-ok : goal.returns-clause-ok
returns-clause-ok g c =
    let numbers = map g.O.Offset.number c.args.offsets in
    IfOk-weaker c.try_from_buffer.result
    (λ made. (first_fault numbers ≡ None) × (made ≡ numbers_of g.O.Offset.number c.args.offsets))
    (λ made. map (λ n. pos n) made ≡ file_offsets numbers)
    (λ made is. ap (map (λ n. pos n)) is.1 ∙ sym (faultless-whole numbers is.0) ∙ sym (file-same numbers is.0))
    c.try_from_buffer.ensures.ok
