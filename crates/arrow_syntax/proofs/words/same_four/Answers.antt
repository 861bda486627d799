use Rattle.arrow_syntax.proofs.FourBytes.{same_numbers}
use Rattle.arrow_syntax.proofs.words.same_four.Goals as goal

pub returns : goal.returns
returns c = same_numbers c.args.bytes.now c.args.others.now c.from_le_bytes.result c.from_le_bytes-2.result
    c.told-bytes c.told-others c.fits-bytes c.fits-others c.from_le_bytes.ensures c.from_le_bytes-2.ensures
