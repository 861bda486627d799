use Rattle.std.proofs.Common.{◌∙◌, ap}
use Rattle.std.specs.Int.{w8, w128, cast_signed}
use Rattle.std.proofs.lemmas.Int.{to_z-of_z}
use Rattle.arrow_integers.specs.NativeArithmetics.{wrap_unsigned}
use Rattle.compute_cast.proofs.WrapLemmas.{wraps_signed}
use Rattle.compute_cast.proofs.wrap_number.I8WrapNumber.wrap_number.Goals as goal

pub returns : goal.returns
returns c =
    to_z-of_z w8 c.cast_signed.result (record { sfits = c.cast_signed.type_inv }) ∙ c.cast_signed.ensures
    ∙ ap (cast_signed w8)
    (c.wrap_number.ensures ∙ ap (wrap_unsigned w8) (to_z-of_z w128 c.args.value c.ranges.value))
    ∙ wraps_signed w8 c.args.value
