use Rattle.std.proofs.Common.{◌≡◌, ◌+◌, length, take, ap, ◌∙◌, arith}
use Rattle.std.specs.List.{concat}
use Rattle.arrow_types.proofs.CallerLemmas.{length-push}
use Rattle.arrow_bytes.specs.Selection.{at_keys}
use Rattle.arrow_kernels.proofs.ChoiceLemmas.{key-place, keys-more}
use Rattle.arrow_kernels.proofs.ItemLemmas.{keys-length}
use Rattle.arrow_kernels.proofs.take_parts.items_length.Goals as goal

pub returns-then-item-most-clause-over : goal.returns-then-item-most-clause-over
returns-then-item-most-clause-over g c =
    let number = g.I.IndexKey.number in
    let keys = c.args.keys.now in
    let items = c.args.items in
    let i = c.loop-key.key-index in
    let item = c.value-item.result.now in
    let found = key-place items (number c.key-item.result) c.place_of.result item c.place_of.ensures.place
    c.value-item.ensures.value in
    let more = keys-more number keys items i c.key-item.result item c.loop-key-test.true c.key-item.is found in
    let so_far = at_keys number (take i keys) items in
    let grown : length (concat (at_keys number (take (i + 1) keys) items)) ≡ length (concat so_far) + length item =
    ap (λ xs. length (concat xs)) more ∙ length-push so_far item in
    let same : c.to_usize-most.result ≡ g.O.Offset.most = cc in
    omega (
      arith,
      grown,
      same,
      keys-length number (i + 1) keys items,
      c.if-item-most.true,
      c.loop-key.invariant.0,
      c.loop-key.invariant.1,
    )

pub loop-key-preserved : goal.loop-key-preserved
loop-key-preserved g c =
    let number = g.I.IndexKey.number in
    let keys = c.args.keys.now in
    let items = c.args.items in
    let i = c.loop-key.key-index in
    let item = c.value-item.result.now in
    let found = key-place items (number c.key-item.result) c.place_of.result item c.place_of.ensures.place
    c.value-item.ensures.value in
    let more = keys-more number keys items i c.key-item.result item c.loop-key-test.true c.key-item.is found in
    let so_far = at_keys number (take i keys) items in
    let grown : length (concat (at_keys number (take (i + 1) keys) items)) ≡ length (concat so_far) + length item =
    ap (λ xs. length (concat xs)) more ∙ length-push so_far item in
    (omega (arith, grown, c.loop-key.invariant.0), omega (arith, c.if-item-most.false, c.loop-key.invariant.1))
