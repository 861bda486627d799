use Rattle.std.proofs.Common.{◌++◌, codes, append_assoc, sym, ◌∙◌}
use Rattle.std.proofs.Output.{has_written_of_eq}
use Rattle.arrow_types.specs.Types.{logical_type}
use Rattle.arrow_types.specs.TypeText.{type_text}
use Rattle.arrow_column.proofs.text.write_head.Goals as goal

pub returns : goal.returns
returns g c = λ plain ok.
    let name = c.args.name.now in
    let field = codes " { data_type: " in
    let type = type_text (logical_type c.args.data_type.now) in
    let next = c.args.next.now in
    has_written_of_eq _ _ _ _ _
    (sym (append_assoc (name ++ field) type next ∙ append_assoc name field (type ++ next)))
    (c.write.ensures.writes plain ok)
