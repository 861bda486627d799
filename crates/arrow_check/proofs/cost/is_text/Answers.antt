use Rattle.arrow_check.proofs.Utf8Lemmas.{well_formed-IsUtf8}
use Rattle.arrow_check.proofs.cost.is_text.Goals as goal

pub returns : goal.returns
returns c =
    let same = well_formed-IsUtf8 c.args.bytes.now in
    let said = c.is_utf8.ensures in
    (λ t. same.1 (said.0 t), λ w. said.1 (same.0 w))
