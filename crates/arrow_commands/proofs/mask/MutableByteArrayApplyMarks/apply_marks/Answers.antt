use Rattle.std.proofs.Common.{rules, ap}
use Rattle.arrow_model.specs.Change.{with_column}
use Rattle.arrow_entry.specs.Entry.{bytes_value}
use Rattle.arrow_model.specs.Item.{bytes_item}
use Rattle.arrow_model.specs.Kind.{with_nulls}
use Rattle.arrow_commands.proofs.Masks.{keeps, changes}
use Rattle.arrow_commands.proofs.mask.MutableByteArrayApplyMarks.apply_marks.Goals as goal

pub apply_validity-requires-clause-keeps : goal.apply_validity-requires-clause-keeps
apply_validity-requires-clause-keeps g c = keeps (λ around. around) (bytes_item g.K.ByteKind.is_text) c.args.self.now
    c.requires.held c.args.marks _ c.requires.fits (λ old changed made. search (made, rules))

pub returns-clause-ok : goal.returns-clause-ok
returns-clause-ok g c =
    ap (with_column (bytes_value with_nulls g.K.ByteKind.is_text c.args.self.now))
    (changes (λ around. around) (bytes_item g.K.ByteKind.is_text) c.args.self.now c.requires.held c.args.marks _
    c.apply_validity.new.self (λ old changed made. search (made, rules)) c.apply_validity.ensures)
