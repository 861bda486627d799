use Rattle.std.proofs.Common.{rules, ap}
use Rattle.arrow_bytes.specs.Pieces.{nothing_around}
use Rattle.arrow_model.specs.Change.{with_column}
use Rattle.arrow_entry.specs.Entry.{boolean_value}
use Rattle.arrow_model.specs.Item.{bit}
use Rattle.arrow_model.specs.Kind.{frozen}
use Rattle.arrow_commands.proofs.Masks.{keeps, changes}
use Rattle.arrow_commands.proofs.mask.BooleanArrayApplyMarks.apply_marks.Goals as goal

pub apply_validity-requires-clause-keeps : goal.apply_validity-requires-clause-keeps
apply_validity-requires-clause-keeps g c = keeps (λ _. nothing_around) bit c.args.self.now c.requires.held
    c.args.marks _ c.requires.fits (λ old changed made. search (made, rules))

pub returns-clause-ok : goal.returns-clause-ok
returns-clause-ok g c =
    ap (with_column (boolean_value frozen c.args.self.now))
    (changes (λ _. nothing_around) bit c.args.self.now c.requires.held c.args.marks _ c.apply_validity.new.self
    (λ old changed made. search (made, rules)) c.apply_validity.ensures)
