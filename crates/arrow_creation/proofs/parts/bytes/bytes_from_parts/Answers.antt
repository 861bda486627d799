use Rattle.std.proofs.lemmas.Result.{err_from_is_err_and}
use Rattle.arrow_creation.proofs.parts.bytes.bytes_from_parts.Goals as goal

pub returns-in_err-array-in-Binary-clause-transition : goal.returns-in_err-array-in-Binary-clause-transition
returns-in_err-array-in-Binary-clause-transition g c =
    let p = err_from_is_err_and c.from_residual.result c.from_residual.ensures.1 in
    rw (p.1, p.2, c.in-Binary.is) c.in_err-array-in-Binary.ensures.transition

pub returns-in_err-array-in-Utf8-clause-transition : goal.returns-in_err-array-in-Utf8-clause-transition
returns-in_err-array-in-Utf8-clause-transition g c =
    let p = err_from_is_err_and c.from_residual-in_err-array-in-Utf8.result
    c.from_residual-in_err-array-in-Utf8.ensures.1 in
    rw (p.1, p.2, c.in-Utf8.is) c.in_err-array-in-Utf8.ensures.transition

pub returns-in_ok-array-in-Utf8-clause-transition : goal.returns-in_ok-array-in-Utf8-clause-transition
returns-in_ok-array-in-Utf8-clause-transition g c = rw (c.in-Utf8.is) c.in_ok-array-in-Utf8.ensures.transition

pub returns-in_err-builder-in-MutableBinary-clause-transition : goal.returns-in_err-builder-in-MutableBinary-clause-transition
returns-in_err-builder-in-MutableBinary-clause-transition g c =
    let p = err_from_is_err_and c.from_residual-in_err-builder-in-MutableBinary.result
    c.from_residual-in_err-builder-in-MutableBinary.ensures.1 in
    rw (p.1, p.2, c.in-MutableBinary.is) c.in_err-builder-in-MutableBinary.ensures.transition

pub returns-in_err-builder-in-MutableUtf8-clause-transition : goal.returns-in_err-builder-in-MutableUtf8-clause-transition
returns-in_err-builder-in-MutableUtf8-clause-transition g c =
    let p = err_from_is_err_and c.from_residual-in_err-builder-in-MutableUtf8.result
    c.from_residual-in_err-builder-in-MutableUtf8.ensures.1 in
    rw (p.1, p.2, c.in-MutableUtf8.is) c.in_err-builder-in-MutableUtf8.ensures.transition

pub returns-in_ok-builder-in-MutableUtf8-clause-transition : goal.returns-in_ok-builder-in-MutableUtf8-clause-transition
returns-in_ok-builder-in-MutableUtf8-clause-transition g c =
    rw (c.in-MutableUtf8.is) c.in_ok-builder-in-MutableUtf8.ensures.transition

pub returns-in_err-builder-in-None-mask-clause-transition : goal.returns-in_err-builder-in-None-mask-clause-transition
returns-in_err-builder-in-None-mask-clause-transition g c =
    let p = err_from_is_err_and c.from_residual-in_err-builder-in-None-mask.result
    c.from_residual-in_err-builder-in-None-mask.ensures.1 in
    rw (p.1, p.2, c.in-Utf8Values.is, c.in-None-mask.is) c.in_err-builder-in-None-mask.ensures.transition

pub returns-in_ok-builder-in-None-mask-clause-transition : goal.returns-in_ok-builder-in-None-mask-clause-transition
returns-in_ok-builder-in-None-mask-clause-transition g c =
    rw (c.in-Utf8Values.is, c.in-None-mask.is) c.in_ok-builder-in-None-mask.ensures.transition
