use Rattle.std.proofs.Common.{◌+◌, ◌≤◌, length, take, ap, sym, ◌∙◌, arith}
use Rattle.arrow_bitmap.proofs.MarkLemmas.{marks-cut, length-marks}
use Rattle.arrow_bitmap.proofs.mutable.MutableBitmap.truncate.Goals as goal

pub returns : goal.returns
returns c =
    let bytes = c.self.inside.bytes.items in
    let n = c.self.inside.length in
    let within : 0 + c.args.len ≤ n = omega (arith, c.requires, ap length c.self.view_is, length-marks bytes 0 n) in
    sym (marks-cut bytes 0 n 0 c.args.len within) ∙ ap (take c.args.len) c.self.view_is
