use Rattle.std.proofs.lemmas.Result.{on_ok_weaker}
use Rattle.arrow_kernels.proofs.JoinLemmas.{pushed-marks}
use Rattle.arrow_kernels.proofs.marks.push_marks.Goals as goal

pub returns-clause-ok : goal.returns-clause-ok
returns-clause-ok g c =
    on_ok_weaker c.extend_mask.result (λ pushed. pushed-marks (g.A.Array.column c.args.array.now) _ _ _ _
    c.validity.ensures.is_column c.validity.ensures.mask c.len.ensures pushed) c.extend_mask.ensures.ok
