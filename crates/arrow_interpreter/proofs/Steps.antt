-- Lemmas on the run of one command.
use Rattle.std.proofs.Common.{◌≡◌, [], ◌∷◌, ◌++◌, ℕ, ℤ, List, pos, refl, Result, Ok, Err}
use Rattle.std.specs.Prelude.{OnOk}
use Rattle.arrow_types.specs.declared.primitive_type.PrimitiveType.TheVariants.{Int64}
use Rattle.arrow_model.specs.Answer.{Answer}
use Rattle.arrow_model.specs.Both.{Both, BothRequest, IsBothStep}
use Rattle.arrow_interpreter.specs.Replies.{AppendsAnswers}
use Rattle.arrow_syntax.specs.Text.{answers_text}

module _ {A E : Type 0} (request : BothRequest ℤ) (answer : Answer ℤ) (old tables new : Both ℤ)
    (before after : List ℕ) (r : Result A E) where
  -- a step to other tables, whose answer was then appended
  pub step_and_text : IsBothStep (pos 0) Int64 old request answer tables
      → OnOk r ((new ≡ tables) × (after ≡ before ++ answers_text (answer ∷ [])))
      → OnOk r (AppendsAnswers (request ∷ []) old new before after)
  step_and_text step text = by_result r text
    where
      by_result : (r : Result A E) → OnOk r ((new ≡ tables) × (after ≡ before ++ answers_text (answer ∷ [])))
          → OnOk r (AppendsAnswers (request ∷ []) old new before after)
      by_result (Ok done) text = (answer ∷ [], (tables, step, text.0), text.1)
      by_result (Err e) text = tt

  -- a step that leaves the tables, whose answer was then appended
  pub text_of_step : IsBothStep (pos 0) Int64 old request answer old → OnOk r (after ≡ before ++ answers_text (answer ∷ []))
      → OnOk r (AppendsAnswers (request ∷ []) old old before after)
  text_of_step step text = by_result r text
    where
      by_result : (r : Result A E) → OnOk r (after ≡ before ++ answers_text (answer ∷ []))
          → OnOk r (AppendsAnswers (request ∷ []) old old before after)
      by_result (Ok done) text = (answer ∷ [], (old, step, refl), text)
      by_result (Err e) text = tt
