-- Runs, and what they cost.
use Rattle.std.proofs.Common.{◌≡◌, ℤ, ℕ, ◌+◌, ◌<◌, List, [], ◌∷◌, ◌++◌, length, map, take, slice_index_or, refl, sym}
use Rattle.std.proofs.Common.{ap, subst, ◌∙◌, append_assoc, arith}
use Rattle.std.proofs.lemmas.List.{take_more}
use Rattle.arrow_types.specs.declared.primitive_type.PrimitiveType.{PrimitiveType}
use Rattle.arrow_check.specs.Reading.{Cost, RisesAtMost}
use Rattle.arrow_model.specs.declared.command.BothCommand.{BothCommand}
use Rattle.arrow_model.specs.declared.command.Command.{Command}
use Rattle.arrow_model.specs.declared.reply.Reply.{Reply}
use Rattle.arrow_model.specs.Request.{Request, as_request}
use Rattle.arrow_model.specs.Answer.{Answer, answer_of}
use Rattle.arrow_model.specs.Value.{TableState, Types}
use Rattle.arrow_model.specs.Step.{IsStep}
use Rattle.arrow_model.specs.Run.{Runs, RunAppends, IsRun, CostedStep, CostsAtMost, sum_over, tested_texts, inner_offsets}
use Rattle.arrow_model.specs.Both.{Both, BothRequest, narrow, wide, widen, narrow_to, both_request, narrow_of, wide_of}
use Rattle.arrow_model.specs.Both.{IsBothStep, BothCommandStep}
use Rattle.arrow_model.proofs.CallerLemmas.{costs-still}

-- ---- any steps

module _ {S C A : Type 0} (Step : S → C → A → S → Type 0) where
  -- a run, and then one step
  run-step : (s m n : S) (cs : List C) (rs : List A) (d : C) (r : A) → Runs Step s cs rs m → Step m d r n
      → Runs Step s (cs ++ d ∷ []) (rs ++ r ∷ []) n
  run-step s m n [] [] d r e step = (n, subst (λ k. Step k d r n) e step, refl)
  run-step s m n [] (r₁ ∷ rs) d r h step = absurd h
  run-step s m n (d₁ ∷ cs) [] d r h step = absurd h
  run-step s m n (d₁ ∷ cs) (r₁ ∷ rs) d r h step = (h.0, h.1, run-step h.0 m n cs rs d r h.2 step)

  -- one more command, whose reply is appended
  pub runs-more : (s m n : S) (commands : List C) (done : ℕ) (before after : List A) (d : C) (r : A)
      → done < length commands → d ≡ slice_index_or commands done d
      → RunAppends Step s (take done commands) before after m → Step m d r n
      → RunAppends Step s (take (done + 1) commands) before (after ++ r ∷ []) n
  runs-more s m n commands done before after d r within is h step = (
    h.0 ++ r ∷ [],
    ap (λ rs. rs ++ r ∷ []) h.1 ∙ append_assoc before h.0 (r ∷ []),
    subst (λ cs. Runs Step s cs (h.0 ++ r ∷ []) n)
        (sym (take_more commands done d within ∙ ap (λ x. take done commands ++ x ∷ []) (sym is)))
        (run-step s m n (take done commands) h.0 d r h.2 step),
  )

-- a run by other steps, which follow from the first
module _ {S C A D B : Type 0} (Step : S → C → A → S → Type 0) (Other : S → D → B → S → Type 0) (asks : C
    → D) (tells : A → B)
    (follows : (s n : S) (c : C) (r : A) → Step s c r n → Other s (asks c) (tells r) n) where
  runs-by : (s n : S) (cs : List C) (rs : List A) → Runs Step s cs rs n → Runs Other s (map asks cs) (map tells rs) n
  runs-by s n [] [] h = h
  runs-by s n [] (r ∷ rs) h = absurd h
  runs-by s n (c ∷ cs) [] h = absurd h
  runs-by s n (c ∷ cs) (r ∷ rs) h = (h.0, follows s h.0 c r h.1, runs-by h.0 n cs rs h.2)

-- ---- costs

sum_over-join : {T : Type 0} (measure : Request T → ℕ) (cs ds : List (Request T))
    → sum_over measure (cs ++ ds) ≡ sum_over measure cs + sum_over measure ds
sum_over-join measure [] ds = omega arith
sum_over-join measure (c ∷ cs) ds = let rest = sum_over-join measure cs ds in omega (arith, rest)

rises-more : (i j n a b d : ℕ) → n ≡ i + j → RisesAtMost i a b → RisesAtMost j b d → RisesAtMost n a d
rises-more i j n a b d is h k = record
    { never_falls = omega (arith, h.never_falls, k.never_falls); most = omega (arith, is, h.most, k.most) }

costs-join : {T : Type 0} (cs ds : List (Request T)) (x y z : Cost) → CostsAtMost cs x y → CostsAtMost ds y z
    → CostsAtMost (cs ++ ds) x z
costs-join cs ds x y z h k = record {
  ascii = rises-more (sum_over tested_texts cs) (sum_over tested_texts ds) (sum_over tested_texts (cs ++ ds)) x.ascii_tests y.ascii_tests
      z.ascii_tests (sum_over-join tested_texts cs ds) h.ascii k.ascii;
  whole = rises-more (sum_over tested_texts cs) (sum_over tested_texts ds) (sum_over tested_texts (cs ++ ds)) x.whole_tests y.whole_tests
      z.whole_tests (sum_over-join tested_texts cs ds) h.whole k.whole;
  looked = rises-more (sum_over inner_offsets cs) (sum_over inner_offsets ds) (sum_over inner_offsets (cs ++ ds))
      x.bytes_looked y.bytes_looked z.bytes_looked (sum_over-join inner_offsets cs ds) h.looked k.looked;
}

-- what the requests of a list of commands cost, where each step costs at most what its own do
module _ {S C A T : Type 0} (Step : S → C → A → S → Type 0) (cost : S → Cost) (requests : List C → List (Request T))
    (none : requests [] ≡ []) (joins : (c : C) (cs : List C) → requests (c ∷ cs) ≡ requests (c ∷ []) ++ requests cs)
    (costs : (s n : S) (c : C) (r : A) → Step s c r n → CostsAtMost (requests (c ∷ [])) (cost s) (cost n)) where
  run-costs : (s n : S) (cs : List C) (rs : List A) → Runs Step s cs rs n → CostsAtMost (requests cs) (cost s) (cost n)
  run-costs s n [] [] h = subst (λ m. CostsAtMost (requests []) (cost s) (cost m)) (sym h)
      (costs-still (requests []) (cost s))
  run-costs s n [] (r ∷ rs) h = absurd h
  run-costs s n (c ∷ cs) [] h = absurd h
  run-costs s n (c ∷ cs) (r ∷ rs) h =
      subst (λ asks. CostsAtMost asks (cost s) (cost n)) (sym (joins c cs))
      (costs-join (requests (c ∷ [])) (requests cs) (cost s) (cost h.0) (cost n) (costs s h.0 c r h.1)
      (run-costs h.0 n cs rs h.2))

-- ---- a table

module _ {T O : Type 0} (c : Types T) (number : O → ℤ) where
  pub table-runs : (s n : TableState T) (cs : List (Command T O)) (rs : List (Reply T)) → Runs (CostedStep c number) s cs rs n
      → IsRun c s (map (as_request number) cs) (map answer_of rs) n
  table-runs = runs-by (CostedStep c number) (IsStep c) (as_request number) answer_of (λ s n command r h. h.0)

  pub table-costs : (s n : TableState T) (cs : List (Command T O)) (rs : List (Reply T)) → Runs (CostedStep c number) s cs rs n
      → CostsAtMost (map (as_request number) cs) s.cost n.cost
  table-costs = run-costs (CostedStep c number) (λ s. s.cost) (map (as_request number)) refl (λ command cs. refl)
      (λ s n command r h. h.1)

-- ---- two tables

narrow-joins : {T : Type 0} (b : BothRequest T) (bs : List (BothRequest T))
    → narrow_of (b ∷ bs) ≡ narrow_of (b ∷ []) ++ narrow_of bs
narrow-joins (narrow asks) bs = refl
narrow-joins _ bs = refl

wide-joins : {T : Type 0} (b : BothRequest T) (bs : List (BothRequest T))
    → wide_of (b ∷ bs) ≡ wide_of (b ∷ []) ++ wide_of bs
wide-joins (wide asks) bs = refl
wide-joins _ bs = refl

module _ {T : Type 0} (zero : T) (primitive : PrimitiveType) where
  pub both-runs : (s n : Both T) (cs : List (BothCommand T)) (rs : List (Reply T)) → Runs (BothCommandStep zero primitive) s cs rs n
      → Runs (IsBothStep zero primitive) s (map both_request cs) (map answer_of rs) n
  both-runs = runs-by (BothCommandStep zero primitive) (IsBothStep zero primitive) both_request answer_of (λ s n command r h. h.0)

  pub narrow-costs : (s n : Both T) (cs : List (BothCommand T)) (rs : List (Reply T)) → Runs (BothCommandStep zero primitive) s cs rs n
      → CostsAtMost (narrow_of (map both_request cs)) s.narrow.cost n.narrow.cost
  narrow-costs = run-costs (BothCommandStep zero primitive) (λ s. s.narrow.cost) (λ cs. narrow_of (map both_request cs)) refl
      (λ command cs. narrow-joins (both_request command) (map both_request cs)) (λ s n command r h. h.1)

  pub wide-costs : (s n : Both T) (cs : List (BothCommand T)) (rs : List (Reply T)) → Runs (BothCommandStep zero primitive) s cs rs n
      → CostsAtMost (wide_of (map both_request cs)) s.wide.cost n.wide.cost
  wide-costs = run-costs (BothCommandStep zero primitive) (λ s. s.wide.cost) (λ cs. wide_of (map both_request cs)) refl
      (λ command cs. wide-joins (both_request command) (map both_request cs)) (λ s n command r h. h.2)
