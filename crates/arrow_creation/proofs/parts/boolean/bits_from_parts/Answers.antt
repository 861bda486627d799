use Rattle.std.proofs.lemmas.Result.{err_from_is_err_and}
use Rattle.arrow_creation.proofs.parts.boolean.bits_from_parts.Goals as goal

pub returns-in_err-array-in-Boolean : goal.returns-in_err-array-in-Boolean
returns-in_err-array-in-Boolean g c =
    let p = err_from_is_err_and c.from_residual.result c.from_residual.ensures.1 in
    rw (p.1, p.2, c.in-Boolean.is) c.in_err-array-in-Boolean.ensures

pub returns-in_err-builder-in-MutableBoolean : goal.returns-in_err-builder-in-MutableBoolean
returns-in_err-builder-in-MutableBoolean g c =
    let p = err_from_is_err_and c.from_residual-in_err-builder-in-MutableBoolean.result
    c.from_residual-in_err-builder-in-MutableBoolean.ensures.1 in
    rw (p.1, p.2, c.in-MutableBoolean.is) c.in_err-builder-in-MutableBoolean.ensures
