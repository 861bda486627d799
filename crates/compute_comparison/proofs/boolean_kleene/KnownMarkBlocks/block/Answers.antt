use Rattle.std.proofs.Common.{◌+◌, ◌∙◌, ap, arith, is_some, Some, sym}
use Rattle.arrow_types.proofs.CallerLemmas.{get-combined}
use Rattle.arrow_column.specs.Column.{slots_of}
use Rattle.compute_comparison.specs.Kleene.{block_slot}
use Rattle.compute_comparison.proofs.KleeneLemmas.{length-known}
use Rattle.compute_comparison.proofs.boolean_kleene.KnownMarkBlocks.block.Goals as goal

pub slot_blocks-requires : goal.slot_blocks-requires
slot_blocks-requires g c = omega (
  arith,
  c.requires.within,
  length-known g.K.KleeneOperation.table c.args.self.now.lhs.now c.args.self.now.rhs.now,
)

pub slot_blocks-requires-2 : goal.slot_blocks-requires-2
slot_blocks-requires-2 g c = omega (
  arith,
  c.requires.within,
  length-known g.K.KleeneOperation.table c.args.self.now.lhs.now c.args.self.now.rhs.now,
)

pub returns : goal.returns
returns g c k low =
    get-combined (λ x y. is_some (g.K.KleeneOperation.table x y)) (slots_of c.args.self.now.lhs.now)
    (slots_of c.args.self.now.rhs.now) (c.args.place + k)
    (block_slot c.slot_blocks.result.values c.slot_blocks.result.marks k)
    (block_slot c.slot_blocks-2.result.values c.slot_blocks-2.result.marks k)
    (c.slot_blocks.ensures k low) (c.slot_blocks-2.ensures k low) ∙ ap Some (sym (c.known_block.ensures k low))
