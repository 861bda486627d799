use Rattle.std.proofs.Common.{sym, ◌∙◌}
use Rattle.std.proofs.lemmas.Result.{MatchResult-weaker}
use Rattle.arrow_kernels.proofs.ChoiceLemmas.{where-full, where-none}
use Rattle.arrow_kernels.proofs.filter_marks.filter_marks.Goals as goal

pub returns-then-unset_bits-eq0-clause-ok : goal.returns-then-unset_bits-eq0-clause-ok
returns-then-unset_bits-eq0-clause-ok c =
    let full = where-full c.args.selected.now c.args.marks.now (sym c.unset_bits.ensures ∙ c.if-unset_bits-eq0.true)
    c.requires in
    MatchResult-weaker c.clone.result c.clone.ensures.ok (λ kept e. e ∙ sym full) (λ _ t. t)

pub returns-then-unset_bits-len-clause-ok : goal.returns-then-unset_bits-len-clause-ok
returns-then-unset_bits-len-clause-ok c =
    let none = where-none c.args.selected.now c.args.marks.now (sym c.unset_bits-2.ensures ∙ c.if-unset_bits-len.true
    ∙ c.len.ensures) in
    MatchResult-weaker c.new.result c.new.ensures.ok (λ kept e. e ∙ sym none) (λ _ t. t)
