use Rattle.std.proofs.Common.{◌+◌, ◌*◌, ◌∙◌, ap}
use lib.Lanes.{put_chunk}
use Rattle.arrow_memory.specs.Marks.{mark_at}
use Rattle.compute_base.proofs.WordLemmas.{kept-marks, written-marks}
use Rattle.compute_base.proofs.words.write_word.Goals as goal

pub returns-clause-marks : goal.returns-clause-marks
returns-clause-marks c k low =
    ap (λ bytes. mark_at (put_chunk c.args.at c.args.target.now bytes) (8 * c.args.at + k)) c.to_le_bytes.ensures
    ∙ written-marks c.args.target.now c.args.word c.args.at c.requires k low

pub returns-clause-kept : goal.returns-clause-kept
returns-clause-kept c i low =
    ap (λ bytes. mark_at (put_chunk c.args.at c.args.target.now bytes) i) c.to_le_bytes.ensures
    ∙ kept-marks c.args.target.now c.args.word c.args.at i low
