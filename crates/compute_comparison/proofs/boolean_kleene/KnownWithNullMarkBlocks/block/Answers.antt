use Rattle.std.proofs.Common.{◌+◌, ◌∙◌, ap, arith, is_some, None, Some, sym}
use Rattle.arrow_types.proofs.CallerLemmas.{get-map}
use Rattle.arrow_column.specs.Column.{slots_of}
use Rattle.compute_comparison.specs.Kleene.{block_slot}
use Rattle.compute_comparison.proofs.KleeneLemmas.{null-block}
use Rattle.compute_comparison.proofs.ScalarLemmas.{length-with_null}
use Rattle.compute_comparison.proofs.boolean_kleene.KnownWithNullMarkBlocks.block.Goals as goal

pub slot_blocks-requires : goal.slot_blocks-requires
slot_blocks-requires g c = omega (
  arith,
  c.requires.within,
  length-with_null g.K.KleeneOperation.table c.args.self.now.array.now,
)

pub returns : goal.returns
returns g c k low =
    let table = g.K.KleeneOperation.table in
    let slot = block_slot c.slot_blocks.result.values c.slot_blocks.result.marks k in
    get-map (λ s. is_some (table s None)) (slots_of c.args.self.now.array.now) (c.args.place + k) slot
    (c.slot_blocks.ensures k low)
    ∙ ap (λ s. Some (is_some (table slot s))) (sym (null-block k low)) ∙ ap Some (sym (c.known_block.ensures k low))
