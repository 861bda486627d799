use Rattle.arrow_bytes.proofs.owned.RefStringByteItemUtf8.bytes.Goals as goal

pub returns-clause-item : goal.returns-clause-item
returns-clause-item c = (c.well_formed_is_utf8.ensures c.as_bytes.result.now).1 c.as_bytes.ensures.utf8
