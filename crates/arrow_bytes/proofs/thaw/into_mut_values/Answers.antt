use Rattle.std.proofs.Common.{rules}
use Rattle.arrow_bytes.proofs.PieceLemmas.{piece_reads, piece_thaws}
use Rattle.arrow_bytes.proofs.KindLemmas.{kinds-thawed}
use Rattle.arrow_bytes.proofs.thaw.into_mut_values.Goals as goal

pub invariant_of-result-in-Right : goal.invariant_of-result-in-Right
invariant_of-result-in-Right g c =
    let os = c.values.inside.offsets in
    let bytes = c.values.inside.bytes in (
      search (rules, piece_reads, piece_thaws),
      search (rules, piece_reads, piece_thaws),
      rw (c.in-Right.ensures.1, c.in-Right.ensures.0) (kinds-thawed g.K.ByteKind.is_text os bytes
          c.values.invariant.0 c.values.invariant.1 c.values.invariant.2),
    )
