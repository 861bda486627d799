use Rattle.std.proofs.Common.{◌∙◌, ap}
use Rattle.std.specs.Prelude.{option_map, string_bytes}
use Rattle.arrow_syntax.proofs.Texts.{text_read}
use Rattle.arrow_syntax.proofs.items.text_from_utf8.Goals as goal

pub returns : goal.returns
returns c = ap (option_map string_bytes) c.ok.ensures.value
    ∙ text_read c.from_utf8.result c.args.bytes c.from_utf8.ensures.succeeds c.from_utf8.ensures.ok
