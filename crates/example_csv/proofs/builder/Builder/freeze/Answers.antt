use Rattle.std.proofs.Common.{ap, ◌∙◌}
use Rattle.dethrugn.specs.Column.{slots_of}
use Rattle.example_csv.proofs.BuilderLemmas.{texts-of}
use Rattle.example_csv.proofs.builder.Builder.freeze.Goals as goal

pub returns-in_ok-freeze-in-Undeclared-clause-ok : goal.returns-in_ok-freeze-in-Undeclared-clause-ok
returns-in_ok-freeze-in-Undeclared-clause-ok c = λ fields read.
    let cells = rw c.in-Undeclared.is at read in
    rw c.in-Undeclared.is (c.convert.ensures.ok fields
    (ap slots_of c.in_ok-freeze-in-Undeclared.ensures.ok ∙ texts-of (slots_of c.in-Undeclared.builder) fields cells))
