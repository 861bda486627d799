use Rattle.arrow_bytes.proofs.utf8.text_of.Goals as goal

pub from_utf8_unchecked-requires : goal.from_utf8_unchecked-requires
from_utf8_unchecked-requires c = (c.well_formed_is_utf8.ensures c.args.bytes.now).0 c.requires
