use Rattle.std.proofs.Common.{◌-◌, ◌*◌, ap₂, sym, ◌∙◌, ◌+◌, arith}
use Rattle.arrow_bitmap.proofs.MarkLemmas.{clear-empty, clear-le, clear_step-byte}
use Rattle.arrow_bitmap.proofs.bits.count_clear_bytes.Goals as goal

pub loop-index-init : goal.loop-index-init
loop-index-init c = clear-empty c.args.bytes.now (8 * c.args.first) (8 * (c.args.first - c.args.first)) (omega arith)

pub overflow_add-clear : goal.overflow_add-clear
overflow_add-clear c =
    omega (
      arith,
      c.loop-index.invariant,
      clear-le c.args.bytes.now (8 * c.args.first) (8 * (c.loop-index.index - c.args.first)),
      c.count_zeros.ensures.bound,
    )

pub loop-index-preserved : goal.loop-index-preserved
loop-index-preserved c =
    ap₂ ◌+◌ c.loop-index.invariant c.count_zeros.ensures.value
    ∙ sym (clear_step-byte c.args.bytes.now c.args.first c.loop-index.index (omega arith)
    (c.type_inv.bytes c.loop-index.index).fits)
