use Rattle.std.proofs.lemmas.Result.{IfOk-weaker}
use Rattle.arrow_types.specs.Types.{default_logical_type}
use Rattle.arrow_primitive.proofs.SlotLemmas.{made-of-values}
use Rattle.arrow_primitive.proofs.array.PrimitiveArray.from_values.Goals as goal

pub returns-clause-ok : goal.returns-clause-ok
returns-clause-ok g c =
    let done = c.in_ok-extend_values.ensures.ok in
    IfOk-weaker c.freeze.result _ _ (λ array frozen. (
      done.0,
      done.1,
      made-of-values g.T.NativeType.zero (default_logical_type g.T.NativeType.PRIMITIVE) done.0
          c.new-builder.result c.extend_values.new.self array c.new-builder.ensures done.2 frozen,
    ))
    c.freeze.ensures.ok
