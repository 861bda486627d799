-- A new value that slots are appended to: it is what they make, and then an array of them if one is made; or none, if
-- not all of them could be appended.
use Rattle.std.proofs.Common.{◌≡◌, ℕ, suc, Bool, true, false, not, nat_eq, List, [], ◌∷◌, length, map, take}
use Rattle.std.proofs.Common.{Option, Some, None, if◌then◌else◌, refl, sym, ap, ap₂, subst, ◌∙◌, arith}
use Rattle.std.proofs.lemmas.Bool.{eqb-true}
use Rattle.std.proofs.lemmas.List.{take_all}
use Rattle.std.proofs.lemmas.List.Folds.{list_all-append}
use Rattle.std.proofs.lemmas.Option.{same_Some}
use Rattle.std.specs.Prelude.{IfErr, IfOk, OnOk, MatchBool, Result, Ok, Err}
use Rattle.arrow_types.specs.Failures.{OnlyOutOfMemory}
use Rattle.arrow_types.specs.Types.{out_of_memory, overflow, refusal}
use Rattle.arrow_types.specs.declared.error.Error.{Error}
use Rattle.arrow_types.proofs.CallerLemmas.{and-true}
use Rattle.arrow_column.specs.Column.{ColumnWith, append_slot, append_slots, all_valid, refused_growth}
use Rattle.arrow_column.specs.Column.{without_needless_mask}
use Rattle.arrow_bytes.specs.Pieces.{Around}
use Rattle.arrow_creation.specs.Outcome.{BuiltBy, builder_group}
use Rattle.arrow_entry.specs.declared.entry.Entry.{Entry}
use Rattle.arrow_entry.specs.Entry.{value_of}
use Rattle.arrow_model.specs.Answer.{Answer, done, refused, is_memory}
use Rattle.arrow_model.specs.Change.{grown, fitting, slot_over, frozen_value, empty_value, slots_start}
use Rattle.arrow_model.specs.Item.{Stored}
use Rattle.arrow_model.specs.Kind.{Group, ValueKind, shaped, frozen, with_nulls, values_alone, same_group, is_boolean}
use Rattle.arrow_model.specs.Kind.{is_builder}
use Rattle.arrow_model.specs.Transition.{Transition}
use Rattle.arrow_model.specs.Step.{Extends, Filled, all_fit}
use Rattle.arrow_model.specs.Value.{Value, Types, default_item}

-- both cases of a test, each with what it gave
both-so : (b : Bool) {A A₂ B B₂ : Type 0} → (b ≡ true → A → A₂) → (b ≡ false → B → B₂) → MatchBool b A B
    → MatchBool b A₂ B₂
both-so true f g = f refl
both-so false f g = g refl

module _ {T : Type 0} where
  not-done : (let it : Answer T = refused overflow in it) ≡ done → ⊥
  not-done e = cc

module _ {T : Type 0} (c : Types T) (v : Value T) (slots : List (Option (Stored T))) (last : Value T → Value T) where
  -- all of them were appended
  whole : (w : Value T) (fits : Bool) → all_fit c v slots ≡ fits
      → (let answer_of : Answer T = done in answer_of) ≡ (if fits then done else refused overflow)
      → Some w ≡ Some (grown c v (take (fitting c v slots) slots)) → Filled c v slots last done (Some (last w))
  whole w true fit is grows =
      rw fit (
        refl,
        ap (λ (kept : Value T). Some (last kept))
            (same_Some w (grown c v slots) (grows ∙ ap (λ xs. Some (grown c v xs))
            (take_all (fitting c v slots) slots (omega (arith, eqb-true (fitting c v slots) (length slots) fit))))),
      )
  whole w false fit is grows = absurd (not-done (sym is))

  filled-done : (w : Value T) → Extends c v slots done (Some w) → Filled c v slots last done (Some (last w))
  filled-done w h = whole w (all_fit c v slots) refl h.0 h.1

  -- one of them was refused
  stopped : (fits : Bool) → all_fit c v slots ≡ fits
      → (let answer_of : Answer T = refused overflow in answer_of) ≡ (if fits then done else refused overflow)
      → Filled c v slots last (refused overflow) None
  stopped true fit is = absurd (not-done is)
  stopped false fit is = rw fit (refl, refl)

  filled-refused : (over : Bool) (new : Option (Value T))
      → Extends c v slots (refused (refusal (refused_growth over))) new
      → Filled c v slots last (refused (refusal (refused_growth over))) None
  filled-refused true new h = stopped (all_fit c v slots) refl h.0
  filled-refused false new h = refl

-- how many slots fit doesn't depend on the group
module _ {T : Type 0} (c : Types T) (sort : ValueKind) where
  abbrev of_group : Group → ColumnWith Around (Stored T) → Value T
  of_group group column = record { shape = shaped group sort; column = column }

  same-fit : (g h : Group) (column : ColumnWith Around (Stored T)) (slots : List (Option (Stored T)))
      → fitting c (of_group g column) slots ≡ fitting c (of_group h column) slots
  same-fit g h column [] = refl
  same-fit g h column (x ∷ slots) = ap (λ n. if slot_over c (of_group g column) x then 0 else suc n)
      (same-fit g h (append_slot (default_item c sort) column x) slots)

  other-group : (g h : Group) (column : ColumnWith Around (Stored T)) (slots : List (Option (Stored T)))
      (last last₂ : Value T → Value T) (reply : Answer T) (kept : Option (Value T))
      → last (grown c (of_group g column) slots) ≡ last₂ (grown c (of_group h column) slots)
      → Filled c (of_group g column) slots last reply kept → Filled c (of_group h column) slots last₂ reply kept
  other-group g h column slots last last₂ reply kept same =
      both-so (is_memory reply) (λ _ none. none) (λ _ answer_of.
      subst (λ fits. MatchBool (not fits) ((reply ≡ refused overflow) × (kept ≡ None))
      ((reply ≡ done) × (kept ≡ Some (last₂ (grown c (of_group h column) slots)))))
      (ap (λ n. nat_eq n (length slots)) (same-fit g h column slots))
      (both-so (not (all_fit c (of_group g column) slots)) (λ _ h. h) (λ _ h. (h.0, h.1 ∙ ap Some same)) answer_of))

  -- slots of any kind, made in its builder
  slots-made : (group : Group) (slots : List (Option (Stored T))) (reply : Answer T) (kept : Option (Value T))
      → Filled c (slots_start c (shaped (builder_group group) sort)) slots
      (λ w. if same_group group frozen then frozen_value w else w) reply kept
      → Filled c (slots_start c (shaped group sort)) slots
      (λ w. if same_group group frozen then frozen_value w else w) reply kept
  slots-made frozen slots reply kept h = other-group with_nulls frozen (slots_start c (shaped frozen sort)).column
      slots (λ w. frozen_value w) (λ w. frozen_value w) reply kept refl h
  slots-made with_nulls slots reply kept h = h
  slots-made values_alone slots reply kept h = h

  -- items leave no null, and no mask where none was
  held-items : (d : Stored T) (column : ColumnWith Around (Stored T)) (items : List (Stored T))
      → (append_slots d column (map Some items)).held ≡ column.held
  held-items d column [] = refl
  held-items d column (x ∷ items) = held-items d (append_slot d column (Some x)) items

  valid-items : (d : Stored T) (column : ColumnWith Around (Stored T)) (items : List (Stored T))
      → all_valid (append_slots d column (map Some items)) ≡ all_valid column
  valid-items d column [] = refl
  valid-items d column (x ∷ items) =
      valid-items d (append_slot d column (Some x)) items
      ∙ list_all-append (λ row. row.1) column.rows ((x, true) ∷ []) ∙ and-true (all_valid column)

  around-items : (d : Stored T) (column : ColumnWith Around (Stored T)) (items : List (Stored T))
      → (append_slots d column (map Some items)).around ≡ column.around
  around-items d column [] = refl
  around-items d column (x ∷ items) = around-items d (append_slot d column (Some x)) items

  -- where nothing lies behind them and no mask is held, an array has the same column
  abbrev tailless : ColumnWith Around (Stored T) → ColumnWith Around (Stored T)
  tailless column = record column { around = record column.around { tail = [] } }

  same-column : (b : Bool) (column : ColumnWith Around (Stored T)) → column.held ≡ false → all_valid column ≡ true
      → column.around.tail ≡ []
      → (if b then tailless column else without_needless_mask (tailless column)) ≡ column
  same-column true column bare valid none =
      ap (λ (tail : List ℕ). record column { around = record column.around { tail = tail } }) (sym none)
  same-column false column bare valid none =
      ap₂ (λ (held : Bool) (tail : List ℕ). record column
      { held = held; around = record column.around { tail = tail } }) (ap not valid ∙ sym bare) (sym none)

  frozen-items : (column : ColumnWith Around (Stored T)) (items : List (Stored T)) → column.held ≡ false
      → all_valid column ≡ true → column.around.tail ≡ []
      → frozen_value (grown c (of_group with_nulls column) (map Some items))
      ≡ grown c (of_group frozen column) (map Some items)
  frozen-items column items bare valid none =
      let d = default_item c sort in
      ap (of_group frozen)
      (same-column (is_boolean (shaped with_nulls sort)) (append_slots d column (map Some items))
      (held-items d column items ∙ bare) (valid-items d column items ∙ valid)
      (ap (λ (around : Around). around.tail) (around-items d column items) ∙ none))

  items-made : (group : Group) (items : List (Stored T)) (reply : Answer T) (kept : Option (Value T))
      → Filled c (empty_value c (shaped (builder_group group) sort)) (map Some items)
      (λ w. if same_group group frozen then frozen_value w else w) reply kept
      → Filled c (empty_value c (shaped group sort)) (map Some items) (λ w. w) reply kept
  items-made frozen items reply kept h =
      let column = (empty_value c (shaped frozen sort)).column in
      other-group with_nulls frozen column (map Some items) (λ w. frozen_value w) (λ w. w) reply kept
      (frozen-items column items refl refl refl) h
  items-made with_nulls items reply kept h = h
  items-made values_alone items reply kept h = h

  -- slots that were appended to the builder of a kind, and what became of it
  abbrev SlotsFilled : Group → List (Option (Stored T)) → Answer T → Option (Value T) → Type 0
  SlotsFilled group slots = Filled c (slots_start c (shaped group sort)) slots
      (λ w. if same_group group frozen then frozen_value w else w)

  pub slots-done : (group : Group) (slots : List (Option (Stored T))) (v w : Value T)
      → v ≡ slots_start c (shaped (builder_group group) sort) → Extends c v slots done (Some w)
      → SlotsFilled group slots done (Some (if same_group group frozen then frozen_value w else w))
  slots-done group slots v w is h =
      let start = slots_start c (shaped (builder_group group) sort) in
      slots-made group slots done (Some (if same_group group frozen then frozen_value w else w))
      (filled-done c start slots (λ w. if same_group group frozen then frozen_value w else w) w
      (subst (λ v. Extends c v slots done (Some w)) is h))

  pub slots-refused : (group : Group) (slots : List (Option (Stored T))) (v : Value T) (over : Bool)
      (new : Option (Value T)) → v ≡ slots_start c (shaped (builder_group group) sort)
      → Extends c v slots (refused (refusal (refused_growth over))) new
      → SlotsFilled group slots (refused (refusal (refused_growth over))) None
  slots-refused group slots v over new is h =
      let start = slots_start c (shaped (builder_group group) sort) in
      slots-made group slots (refused (refusal (refused_growth over))) None
      (filled-refused c start slots (λ w. if same_group group frozen then frozen_value w else w) over new
      (subst (λ v. Extends c v slots (refused (refusal (refused_growth over))) new) is h))

  -- the same of items
  abbrev ItemsFilled : Group → List (Stored T) → Answer T → Option (Value T) → Type 0
  ItemsFilled group items = Filled c (empty_value c (shaped group sort)) (map Some items) (λ w. w)

  pub items-done : (group : Group) (items : List (Stored T)) (v w : Value T)
      → v ≡ empty_value c (shaped (builder_group group) sort) → Extends c v (map Some items) done (Some w)
      → ItemsFilled group items done (Some (if same_group group frozen then frozen_value w else w))
  items-done group items v w is h =
      let start = empty_value c (shaped (builder_group group) sort) in
      items-made group items done (Some (if same_group group frozen then frozen_value w else w))
      (filled-done c start (map Some items) (λ w. if same_group group frozen then frozen_value w else w) w
      (subst (λ v. Extends c v (map Some items) done (Some w)) is h))

  pub items-refused : (group : Group) (items : List (Stored T)) (v : Value T) (over : Bool) (new : Option (Value T))
      → v ≡ empty_value c (shaped (builder_group group) sort)
      → Extends c v (map Some items) (refused (refusal (refused_growth over))) new
      → ItemsFilled group items (refused (refusal (refused_growth over))) None
  items-refused group items v over new is h =
      let start = empty_value c (shaped (builder_group group) sort) in
      items-made group items (refused (refusal (refused_growth over))) None
      (filled-refused c start (map Some items) (λ w. if same_group group frozen then frozen_value w else w) over new
      (subst (λ v. Extends c v (map Some items) (refused (refusal (refused_growth over))) new) is h))

-- a builder that slots were appended to, and what became of it: an array of them, or the builder; or none, if not all of
-- them could be appended
pub finish-built : {T O R : Type 0} (c : Types T) (v w : Value T) (slots : List (Option (Stored T)))
    (transition : Transition T) (array : Bool) (filled : Result R Error) (result : Result (Entry T O) Error)
    → OnOk filled (Extends c v slots done (Some w))
    → IfErr filled (λ e. (over : Bool) × (e ≡ refused_growth over) × Extends c v slots (refused (refusal e)) (Some w))
    → IfOk result (λ made. value_of made ≡ (if array then frozen_value w else w))
    → IfErr filled (λ e. result ≡ Err e) → OnOk filled (OnlyOutOfMemory result)
    → (Extends c v slots done (Some w) → transition done (Some (if array then frozen_value w else w)))
    → ((over : Bool) → Extends c v slots (refused (refusal (refused_growth over))) (Some w)
    → transition (refused (refusal (refused_growth over))) None)
    → transition (refused out_of_memory) None → BuiltBy value_of result transition
finish-built c v w slots transition array (Ok r) (Ok made) all until ok stopped err done-so refused-so wanting =
    subst (λ (v : Value _). transition done (Some v)) (sym ok) (done-so all)
finish-built c v w slots transition array (Ok r) (Err e) all until ok stopped err done-so refused-so wanting =
    subst (λ (e : Error). transition (refused (refusal e)) None) (sym err) wanting
finish-built c v w slots transition array (Err e) result all until ok stopped err done-so refused-so wanting =
    subst (λ (r : Result (Entry _ _) Error). BuiltBy value_of r transition) (sym stopped)
    (subst (λ (e : Error). transition (refused (refusal e)) None) (sym until.1)
    (refused-so until.0
    (subst (λ (e : Error). Extends c v slots (refused (refusal e)) (Some w)) until.1 until.2)))
