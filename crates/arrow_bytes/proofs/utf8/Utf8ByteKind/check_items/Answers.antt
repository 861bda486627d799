use Rattle.arrow_bytes.proofs.TextLemmas.{costs-from, texts-refused, texts-tested}
use Rattle.arrow_bytes.proofs.utf8.Utf8ByteKind.check_items.Goals as goal

pub returns-clause-ok : goal.returns-clause-ok
returns-clause-ok g c = texts-tested _ _ _ c.requires.within c.new-text.ensures.bytes c.check_utf8-tested.result
    c.check_utf8-tested.ensures.ok

pub returns-clause-err : goal.returns-clause-err
returns-clause-err g c = texts-refused _ _ _ c.requires.within c.new-text.ensures.bytes c.check_utf8-tested.result
    c.check_utf8-tested.ensures.err

pub returns-clause-exact : goal.returns-clause-exact
returns-clause-exact g c = costs-from _ _ c.new-text.result c.check_utf8-tested.new.text _ _
    c.new-text.ensures.bytes c.new-text.ensures.cost c.cost.ensures c.check_utf8-tested.ensures.counted.bytes
    c.check_utf8-tested.ensures.exact
