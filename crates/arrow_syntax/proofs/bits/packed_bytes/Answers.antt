use Rattle.std.proofs.Common.{◌*◌, ◌∙◌, ap, refl}
use Rattle.arrow_syntax.specs.Fields.{byte_of}
use Rattle.arrow_syntax.proofs.Packing.{byte_more, eight_of}
use Rattle.arrow_syntax.proofs.bits.packed_bytes.Goals as goal

pub loop-index-preserved : goal.loop-index-preserved
loop-index-preserved c =
    let bits = c.args.bits.now in
    let index = c.loop-index.index in
    c.in_ok-push.ensures.items
    ∙ byte_more bits index c.loop-index.bytes.items c.byte_of.result c.loop-index.invariant
    (c.byte_of.ensures ∙ ap byte_of (eight_of bits _ _ (8 * index) c.min.result refl c.min.ensures refl))
