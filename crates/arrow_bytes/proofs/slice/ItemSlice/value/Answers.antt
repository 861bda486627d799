use Rattle.std.proofs.Common.{rules, ◌≡◌, ◌-◌, take, drop, slice_get, Some}
use Rattle.arrow_check.specs.Pieces.{items_of}
use Rattle.arrow_bytes.proofs.PieceLemmas.{piece_reads}
use Rattle.arrow_bytes.proofs.KindLemmas.{item-at}
use Rattle.arrow_bytes.proofs.slice.ItemSlice.value.Goals as goal

pub returns-clause-item : goal.returns-clause-item
returns-clause-item g c =
    let start = c.start_end-start.result.0 in
    let end = c.start_end-start.result.1 in
    let found : slice_get (items_of c.self.inside.offsets.now c.self.inside.bytes.now) c.args.i
    ≡ Some (take (end - start) (drop start c.self.inside.bytes.now)) = search (rules, piece_reads) in
    item-at g.K.ByteKind.is_text (items_of c.self.inside.offsets.now c.self.inside.bytes.now) c.args.i _ found
    c.self.invariant.2
