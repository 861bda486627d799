use Rattle.std.proofs.Common.{◌%◌, ◌^◌, ◌∙◌, ap}
use Rattle.std.specs.Int.{w8, w128, cast_unsigned}
use Rattle.std.proofs.lemmas.Int.{to_z-of_z}
use Rattle.compute_cast.proofs.WrapLemmas.{wraps_unsigned}
use Rattle.compute_cast.proofs.wrap_number.U8WrapNumber.wrap_number.Goals as goal

pub returns : goal.returns
returns c =
    ap (λ n. n % 2 ^ 8) (c.cast_unsigned.ensures ∙ ap (cast_unsigned w128) (to_z-of_z w128 c.args.value c.ranges.value))
    ∙ wraps_unsigned w8 c.args.value c.ranges.value
