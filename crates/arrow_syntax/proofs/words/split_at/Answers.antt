use Rattle.std.proofs.Common.{◌==◌, ◌∙◌, sym}
use Rattle.arrow_syntax.specs.Words.{pieces}
use Rattle.arrow_syntax.proofs.Pieces.{cut_some, cut_none}
use Rattle.arrow_syntax.proofs.words.split_at.Goals as goal

pub returns-in-Some-clause-pieces : goal.returns-in-Some-clause-pieces
unfolding pieces
returns-in-Some-clause-pieces c = cut_some (λ b. b == c.args.byte) c.args.text.now c.in-Some.place
    (sym c.position_of.ensures ∙ c.in-Some.is)

pub returns-in-None-clause-pieces : goal.returns-in-None-clause-pieces
unfolding pieces
returns-in-None-clause-pieces c = cut_none (λ b. b == c.args.byte) c.args.text.now (sym c.position_of.ensures
    ∙ c.in-None.is)
