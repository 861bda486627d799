-- Lemmas on runs of the lines of an input.
use Rattle.std.proofs.Common.{◌≡◌, ℕ, ◌+◌, List, [], ◌∷◌, ◌++◌, sym, ap, subst, refl, ◌∙◌, Bool, true, false, ℤ, pos}
use Rattle.std.specs.Option.{option_to_list}
use Rattle.std.proofs.lemmas.Grind.{flat_map-append}
use Rattle.arrow_types.specs.declared.primitive_type.PrimitiveType.TheVariants.{Int64}
use Rattle.arrow_model.specs.Answer.{Answer}
use Rattle.arrow_model.specs.Both.{Both, BothRequest, IsBothStep}
use Rattle.arrow_model.specs.Run.{Runs}
use Rattle.arrow_interpreter.specs.Replies.{IsProgramRun, at_first, AppendsAnswers}
use Rattle.arrow_syntax.specs.Lines.{bad_line, commands_of, line_request, is_bad}
use Rattle.arrow_session.specs.Session.{AreCommands, IsAnswer}
use Rattle.arrow_syntax.specs.Text.{answers_text}
use Rattle.arrow_syntax.specs.Words.{lines_of}
use Rattle.arrow_session.proofs.Parsing.{parsed_from, commands_of_is, reads_good, reads_bad, reads_all}

module _ {S C A : Type 0} (Step : S → C → A → S → Type 0) where
  -- a run, and then another
  runs_joined : (s m n : S) (first others : List C) (replies answers : List A) → Runs Step s first replies m
      → Runs Step m others answers n → Runs Step s (first ++ others) (replies ++ answers) n
  runs_joined s m n [] others [] answers e run = subst (λ k. Runs Step k others answers n) e run
  runs_joined s m n [] others (r ∷ replies) answers h run = absurd h
  runs_joined s m n (x ∷ first) others [] answers h run = absurd h
  runs_joined s m n (x ∷ first) others (r
      ∷ replies) answers h run = (h.0, h.1, runs_joined h.0 m n first others replies answers h.2 run)

-- the state of the first pass: the number of the next line, and the lines left
unfoldable pub IsReadTo : List ℕ → ℕ → List (List ℕ) → Type 0
IsReadTo input n rest = (commands : List (BothRequest ℤ)) × (commands_of input ≡ parsed_from n commands rest)

-- the state of the second pass: the lines left, and the tables and the text after a run of the requests before them
unfoldable pub IsRunTo : List ℕ → List (List ℕ) → Both ℤ → List ℕ → Type 0
IsRunTo input rest table text =
    (n : ℕ) × (commands : List (BothRequest ℤ)) × (answers : List (Answer ℤ))
    × (commands_of input ≡ parsed_from n commands rest) × IsProgramRun at_first commands answers table
    × (text ≡ answers_text answers)

module _ (input : List ℕ) where
  pub read_none : IsReadTo input 1 (lines_of input)
  unfolding IsReadTo
  read_none = ([], commands_of_is input)

  pub read_all : (n : ℕ) → IsReadTo input n [] → AreCommands input
  unfolding IsReadTo
  read_all n h = (h.0, h.1 ∙ reads_all n h.0)

  pub run_none : (table : Both ℤ) (text : List ℕ) → table ≡ at_first → text ≡ []
      → IsRunTo input (lines_of input) table text
  unfolding IsRunTo
  run_none table text e f = (1, [], [], commands_of_is input, e, f)

  pub run_to_end : (table : Both ℤ) (text : List ℕ) → IsRunTo input [] table text → IsAnswer input text
  unfolding IsRunTo
  run_to_end table text h = (h.1, h.2, table, h.3 ∙ reads_all h.0 h.1, h.4, h.5)

  module _ (line : List ℕ) (rest : List (List ℕ)) where
    pub read_good : (n : ℕ) → is_bad line ≡ false → IsReadTo input n (line ∷ rest) → IsReadTo input (n + 1) rest
    unfolding IsReadTo
    read_good n e h = (h.0 ++ option_to_list (line_request line), h.1 ∙ reads_good n h.0 line rest e)

    pub read_bad : (n : ℕ) → is_bad line ≡ true → IsReadTo input n (line ∷ rest) → commands_of input ≡ bad_line n
    unfolding IsReadTo
    read_bad n e h = h.1 ∙ reads_bad n h.0 line rest e

    module _ (table : Both ℤ) (text : List ℕ) where
      -- if all lines are commands, the next one is
      pub run_next : AreCommands input → IsRunTo input (line ∷ rest) table text → is_bad line ≡ false
      unfolding IsRunTo
      run_next all h = by_test (is_bad line) refl
        where
          by_test : (b : Bool) → is_bad line ≡ b → b ≡ false
          by_test true e = absurd (cc (all.1, h.3 ∙ reads_bad h.0 h.1 line rest e))
          by_test false e = refl

      pub run_good : (later : Both ℤ) (grown : List ℕ) → is_bad line ≡ false
          → AppendsAnswers (option_to_list (line_request line)) table later text grown
          → IsRunTo input (line ∷ rest) table text → IsRunTo input rest later grown
      unfolding IsRunTo
      run_good later grown e adds h = (
        h.0 + 1,
        h.1 ++ option_to_list (line_request line),
        h.2 ++ adds.0,
        h.3 ∙ reads_good h.0 h.1 line rest e,
        runs_joined (IsBothStep (pos 0) Int64) at_first table later h.1 (option_to_list (line_request line)) h.2 adds.0
            h.4 adds.1,
        adds.2 ∙ ap (λ before. before ++ answers_text adds.0) h.5 ∙ sym (flat_map-append _ h.2 adds.0),
      )
