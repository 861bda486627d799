use Rattle.std.proofs.Common.{◌∷◌, ◌∙◌, ap, sym, arith, refl, Bor, List, ℕ}
use Rattle.std.proofs.lemmas.Bool.Decides.{nat_tests}
use Rattle.arrow_syntax.specs.Words.{words_of}
use Rattle.arrow_syntax.proofs.Pieces.{words_from_cut, words_none, words_unwrapped}
use Rattle.std.proofs.lemmas.List.{nil_from_length}
use Rattle.arrow_syntax.proofs.words.next_word.Goals as goal

pub returns-then-is_empty : goal.returns-then-is_empty
returns-then-is_empty c = ap words_of (nil_from_length c.args.text.now (grind (arith, nat_tests))) ∙ words_none

pub returns : goal.returns
returns c =
    let first = words_from_cut c.args.text.now c.split_at.result.0.now c.split_at.result.1
    c.split_at.ensures.pieces (grind (arith, nat_tests)) in
    first ∙ ap (λ words. c.split_at.result.0.now ∷ words) (words_unwrapped c.split_at.result.1 _ refl
    ∙ ap (λ (text : Bor (List ℕ)). words_of text.now) (sym c.unwrap_or.ensures))
