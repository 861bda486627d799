use Rattle.arrow_check.proofs.Utf8Lemmas.{well_formed-IsUtf8}
use Rattle.arrow_check.proofs.laws.well_formed_is_utf8.Goals as goal

pub returns : goal.returns
returns c = well_formed-IsUtf8
