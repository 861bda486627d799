use Rattle.std.proofs.Common.{◌∷◌, ◌∙◌, ap, sym, arith, refl, Bor, List, ℕ}
use Rattle.std.proofs.lemmas.Bool.Decides.{nat_tests}
use Rattle.arrow_syntax.specs.Words.{words_of}
use Rattle.arrow_syntax.proofs.Pieces.{words_from_cut, words_past_cut, words_unwrapped, words_after}
use Rattle.arrow_syntax.proofs.words.word_behind_spaces.Goals as goal

pub returns-then-not-is_empty : goal.returns-then-not-is_empty
returns-then-not-is_empty c =
    let first = words_from_cut c.in-Some.text.now c.split_at.result.0.now c.split_at.result.1
    c.split_at.ensures.pieces (grind (arith, nat_tests)) in
    let here = ap words_after c.in-Some.is in
    c.loop-rest.invariant ∙ here ∙ first
    ∙ ap (λ words. c.split_at.result.0.now ∷ words) (words_unwrapped c.split_at.result.1 _ refl
    ∙ ap (λ (text : Bor (List ℕ)). words_of text.now) (sym c.unwrap_or.ensures))

pub loop-rest-preserved : goal.loop-rest-preserved
loop-rest-preserved c =
    let past = words_past_cut c.in-Some.text.now c.split_at.result.0.now c.split_at.result.1 c.split_at.ensures.pieces
    (grind (arith, nat_tests)) in
    let here = ap words_after c.in-Some.is in
    c.loop-rest.invariant ∙ here ∙ past
