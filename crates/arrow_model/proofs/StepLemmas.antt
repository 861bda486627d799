-- Every transition leaves a value where it leaves anything: so each step of a table keeps its entries values.
use Rattle.std.proofs.Common.{◌≡◌, ◌∙◌, ◌-◌, ◌==◌, ℕ, ℤ, Bool, true, false, not, ◌&&◌, ◌||◌, nat_eq, nat_lt, List, []}
use Rattle.std.proofs.Common.{◌∷◌, ◌++◌, length, map, take, replicate, is_some, is_none, slice_get, slice_set, Option}
use Rattle.std.proofs.Common.{Some, None, option_map, option_and_then, unsigned_abs, if◌then◌else◌, refl, sym, subst}
use Rattle.std.proofs.Common.{true≢false, inl, inr}
use Rattle.std.proofs.lemmas.List.Elements.{All-append, All-head, All-map, All-replicate, All-tail, All-take}
use Rattle.std.specs.Prelude.{All, IfSome, MatchBool, MatchOption}
use Rattle.std.specs.List.{list_all}
use Rattle.std.proofs.lemmas.Bool.{and_parts}
use Rattle.arrow_types.specs.Types.{IsRightType, LogicalType}
use Rattle.arrow_types.specs.declared.physical_type.PhysicalType.TheVariants as physical
use Rattle.arrow_column.specs.Validation.{Tests, Passes}
use Rattle.arrow_column.specs.Column.{Column, marks_of, stored_values, last_slot}
use Rattle.arrow_bytes.specs.Selection as kernels
use Rattle.arrow_model.specs.Answer.{Answer, done, is_memory, not_met, refused}
use Rattle.arrow_model.specs.Change.{frozen_value, empty_value, slots_start, null_in, grown, fitting}
use Rattle.arrow_types.specs.declared.primitive_type.PrimitiveType.{PrimitiveType}
use Rattle.arrow_types.proofs.CallerLemmas.{all-at}
use Rattle.arrow_model.specs.Both.{Both, BothRequest, narrow, wide, widen, narrow_to, IsBothStep, Narrows, Widens}
use Rattle.arrow_model.specs.Both.{items_in, narrow_types, with_offset_width, wide_types}
use Rattle.arrow_model.specs.Chosen.{array_in, filter_in}
use Rattle.arrow_model.specs.Value.{Value, State, TableState, Types, default_item, layout}
use Rattle.arrow_model.specs.Item.{Stored, bit, value, fits, slot_fits, changed, change_fits, change_of_marks}
use Rattle.arrow_model.specs.Kind.{Group, frozen, with_nulls, values_alone, ValueKind, native, boolean, var_binary}
use Rattle.arrow_model.specs.Kind.{Shape, shaped, is_builder, is_boolean, is_native, is_frozen, is_nullable}
use Rattle.arrow_model.specs.Kind.{is_var_binary, is_values_alone, same_kind}
use Rattle.arrow_primitive.specs.Fits.{parts_tests}
use Rattle.arrow_model.specs.Parts.{PartsTransition, accepted, bits_test, boolean_tests, marks_in, offsets_test, pieces_tests}
use Rattle.arrow_model.specs.Request.{Ask, RawValues, Packed, Request, Source, make, at, clone_to, extend_from, equal}
use Rattle.arrow_model.specs.Request.{filter_to, take_to, check_indexes}
use Rattle.arrow_model.specs.Request as ask
use Rattle.arrow_model.specs.Transition.{gives, leaves, or_else_keep, memory, answers, unmet, require_some, where_true}
use Rattle.arrow_model.specs.Transition.{Transition, provided, of_kind, by_test}
use Rattle.arrow_model.specs.Run.{IsRun, Runs}
use Rattle.arrow_model.specs.Step.{AtEntry, Changes, Clones, Compares, ComparesWith, Does, Extends, Filled, Filtered}
use Rattle.arrow_model.specs.Step.{Filters, AppendsRows, ExtendsFrom, Makes, IntoEmpty, Taken, TakesKeys, copying, effect, entry_at}
use Rattle.arrow_model.specs.Step.{other_at, unless_over}
use Rattle.arrow_model.specs.Both.{IsBothRequest}
use Rattle.arrow_model.specs.Item.{IsTextSlot}
use Rattle.arrow_model.specs.Kind.{IsKind}
use Rattle.arrow_model.specs.Request.{IsRequest, IsTextAsk, IsTextSource}
use Rattle.arrow_model.specs.Values.{AreValues, IsRow, IsStored, IsValue}
use Rattle.arrow_model.proofs.AllLemmas.{keys-all, set-all, where-all}
use Rattle.arrow_model.proofs.ValueLemmas.{IsSlot, alone-is, appended-is, changed-stored, cut-is, default-right}
use Rattle.arrow_model.proofs.ValueLemmas.{default-stored, empty-is, fits-slots, fits-stored, frozen-is, frozen-nulls}
use Rattle.arrow_model.proofs.ValueLemmas.{grown-is, held-rows, items-slots, joined-is, masked, masked-nulls}
use Rattle.arrow_model.proofs.ValueLemmas.{nullable-is, nullable-nulls, nulled, nothing-around, pieces-is, rows-is}
use Rattle.arrow_model.proofs.ValueLemmas.{start-is, stored-all, thawed-is, valued, with-mask-is, with-stored-is}
use Rattle.arrow_model.proofs.ValueLemmas.{zipped}

by-bool : (b : Bool) {A B C : Type 0} → (b ≡ true → A → C) → (b ≡ false → B → C) → MatchBool b A B → C
by-bool true f g = f refl
by-bool false f g = g refl

by-option : {X : Type 0} (found : Option X) {A C : Type 0} {B : X → Type 0} → (A → C)
    → ((x : X) → found ≡ Some x → B x → C) → MatchOption found A B → C
by-option None f g = f
by-option (Some x) f g = g x refl

module _ {T : Type 0} (c : Types T) where
  -- a transition that leaves a value, or nothing
  abbrev pub Fine : Transition T → Type 0
  Fine transition = (reply : Answer T) (new : Option (Value T)) → transition reply new → IfSome new (IsValue c)

  fine-gives : (said : Answer T) (kept : Option (Value T)) → IfSome kept (IsValue c) → Fine (gives said kept)
  fine-gives said kept is reply new h = subst (λ (n : Option (Value T)). IfSome n (IsValue c)) (sym h.1) is

  fine-may : (chosen : Answer T → Bool) (kept : Option (Value T)) (transition : Transition T) → IfSome kept (IsValue c)
      → Fine transition → Fine (or_else_keep chosen kept transition)
  fine-may chosen kept transition is fine reply new = by-bool (chosen reply)
      (λ _ h. subst (λ (n : Option (Value T)). IfSome n (IsValue c)) (sym h) is) (λ _ h. fine reply new h)

  fine-memory : (old : Option (Value T)) (transition : Transition T) → IfSome old (IsValue c) → Fine transition
      → Fine (memory old transition)
  fine-memory = fine-may is_memory

  fine-test : (test : Bool) (transition other : Transition T) → (test ≡ true → Fine transition)
      → (test ≡ false → Fine other) → Fine (by_test test transition other)
  fine-test test transition other holds fails reply new = by-bool test (λ is h. holds is reply new h)
      (λ is h. fails is reply new h)

  fine-given : (old : Option (Value T)) {A : Type 0} (found : Option A) (transition : A → Transition T)
      → IfSome old (IsValue c) → ((x : A) → found ≡ Some x → Fine (transition x))
      → Fine (require_some old found transition)
  fine-given old found transition is fine reply new = by-option found (λ h. fine-gives _ old is reply new h)
      (λ x got h. fine x got reply new h)

  fine-where : (old : Option (Value T)) (test : Bool) (transition : Transition T) → IfSome old (IsValue c)
      → (test ≡ true → Fine transition) → Fine (where_true old test transition)
  fine-where old test transition is fine reply new = by-bool test (λ so h. fine so reply new h)
      (λ _ h. fine-gives _ old is reply new h)

  fine-over : (old : Option (Value T)) (over : Bool) (transition : Transition T) → IfSome old (IsValue c)
      → Fine transition → Fine (unless_over old over transition)
  fine-over old over transition is fine reply new = by-bool over (λ _ h. fine-gives _ old is reply new h)
      (λ _ h. fine reply new h)

  fine-provided : (old : Option (Value T)) (P : Type 0) (transition : Transition T) → IfSome old (IsValue c)
      → (P → Fine transition) → Fine (provided old P transition)
  fine-provided old P transition is fine reply new (inl h) = fine h.0 reply new h.1
  fine-provided old P transition is fine reply new (inr h) = fine-gives _ old is reply new h.1

  fine-kind : (old : Option (Value T)) (kinds : Shape → Bool) (transition : Value T → Transition T)
      → IfSome old (IsValue c) → ((v : Value T) → IsValue c v → kinds v.shape ≡ true → Fine (transition v))
      → Fine (of_kind old kinds transition)
  fine-kind None kinds transition is fine = fine-given None None transition is (λ w got. absurd (none w got))
    where
      none : (w : Value T) → (let it : Option (Value T) = None in it) ≡ Some w → ⊥
      none w e = cc
  fine-kind (Some v) kinds transition is fine =
      fine-given (Some v) (if kinds v.shape then Some v else None) transition is
      (λ w got. holds (kinds v.shape) refl w got)
    where
      holds : (test : Bool) → kinds v.shape ≡ test → (w : Value T) → (if test then Some v else None) ≡ Some w
          → Fine (transition w)
      holds true so w got = subst (λ (u : Value T). Fine (transition u)) (some-same v w got) (fine v is so)
        where
          some-same : (a b : Value T) → Some a ≡ Some b → a ≡ b
          some-same a b e = cc
      holds false so w got = absurd (none got)
        where
          none : (let it : Option (Value T) = None in it) ≡ Some w → ⊥
          none e = cc

  some-is : (o : Option (Value T)) (v : Value T) → o ≡ Some v → IfSome o (IsValue c) → IsValue c v
  some-is o v got is = subst (λ (o : Option (Value T)). IfSome o (IsValue c)) got is

  -- ---- a value that is made

  -- slots that are appended to a new value
  fine-filled : (start : Value T) (xs : List (Option (Stored T))) (last : Value T → Value T)
      → IsValue c (last (grown c start xs)) → Fine (Filled c start xs last)
  fine-filled start xs last is = fine-memory None _ tt
      (fine-over None _ _ tt (fine-gives done (Some (last (grown c start xs))) is))

  -- parts
  fine-accepted : (tests : Tests) (made : Value T) → (Passes tests → IsValue c made) → Fine (accepted tests made)
  fine-accepted tests made is reply new (inl h) = fine-gives done (Some made) (is h.0) reply new h.1
  fine-accepted tests made is reply new (inr h) = fine-gives (refused h.0) None tt reply new h.2

  fine-unmet : Fine (unmet None)
  fine-unmet = fine-gives not_met None tt

  fine-parts : (group : Group) (sort : ValueKind) (t : LogicalType) (mask : Option Packed) (raw : RawValues T)
      → IsKind (shaped group sort) → Fine (PartsTransition c (shaped group sort) t mask raw)
  fine-parts group native t mask (ask.values xs) kind =
      fine-memory None _ tt
      (fine-accepted (bits_test mask (parts_tests c.primitive t xs (option_map marks_in mask))) _
      (λ passed. record {
        right_type = passed.1.1.0;
        around = nothing-around (shaped group native);
        rows = masked native (map value xs) (option_map marks_in mask)
            (All-map (IsStored native) value xs (λ k d within. record { of_value_kind = refl; text = tt }));
        unmasked = λ alone. absurd (true≢false (sym (kind alone)));
      }))
  fine-parts group boolean t mask (ask.values xs) kind = fine-unmet
  fine-parts group (var_binary true) t mask (ask.values xs) kind = fine-unmet
  fine-parts group (var_binary false) t mask (ask.values xs) kind = fine-unmet
  fine-parts group native t mask (ask.packed p) kind = fine-unmet
  fine-parts group (var_binary true) t mask (ask.packed p) kind = fine-unmet
  fine-parts group (var_binary false) t mask (ask.packed p) kind = fine-unmet
  fine-parts group boolean t mask (ask.packed p) kind =
      fine-memory None _ tt
      (fine-accepted (bits_test (Some p)
      (bits_test mask (boolean_tests group t (marks_in p) (option_map marks_in mask)))) _ (λ passed. record {
        right_type = right group passed.1.1;
        around = nothing-around (shaped group boolean);
        rows = masked boolean (map bit (marks_in p)) (option_map marks_in mask)
            (All-map (IsStored boolean) bit (marks_in p) (λ k d within. record { of_value_kind = refl; text = tt }));
        unmasked = λ alone. absurd (true≢false (sym (kind alone)));
      }))
    where
      right : (group : Group) → Passes (boolean_tests group t (marks_in p) (option_map marks_in mask))
          → IsRightType physical.Boolean t
      right frozen passed = passed.1.0
      right with_nulls passed = passed.1.0
      right values_alone passed = passed.1.0
  fine-parts group native t mask (ask.cut_pieces numbers bytes) kind = fine-unmet
  fine-parts group boolean t mask (ask.cut_pieces numbers bytes) kind = fine-unmet
  fine-parts group (var_binary true) t mask (ask.cut_pieces numbers bytes) kind =
      fine-where None (not (is_values_alone (shaped group (var_binary true))) || is_none mask) _ tt
      (λ bare. fine-memory None _ tt
      (fine-accepted (offsets_test numbers
      (bits_test mask (pieces_tests c group true t (map unsigned_abs numbers) bytes (option_map marks_in mask)))) _
      (λ passed. pieces-is c group true t mask (map unsigned_abs numbers) bytes passed.1.1 bare)))
  fine-parts group (var_binary false) t mask (ask.cut_pieces numbers bytes) kind =
      fine-where None (not (is_values_alone (shaped group (var_binary false))) || is_none mask) _ tt
      (λ bare. fine-memory None _ tt
      (fine-accepted (offsets_test numbers
      (bits_test mask (pieces_tests c group false t (map unsigned_abs numbers) bytes (option_map marks_in mask))))
      _ (λ passed. pieces-is c group false t mask (map unsigned_abs numbers) bytes passed.1.1 bare)))

  fine-makes : (s : Shape) (source : Source T) → IsKind s → IsTextSource source → Fine (Makes c s source)
  fine-makes s ask.nothing kind text = fine-memory None _ tt (fine-gives done (Some (empty_value c s)) (empty-is c s))
  fine-makes s (ask.nulls t n) kind text =
      fine-where None (is_frozen s) _ tt
      (λ array. fine-provided None (IsRightType (layout c s.value_kind) t) _ tt
      (λ right. fine-memory None _ tt (fine-gives done _
      (record {
        right_type = right;
        around = nothing-around s;
        rows = zipped s.value_kind true (replicate n (default_item c s.value_kind)) (replicate n false)
            (All-replicate (IsStored s.value_kind) n (default_item c s.value_kind) (default-stored c s.value_kind))
            (λ bare. absurd (true≢false bare));
        unmasked = λ alone. absurd (true≢false (sym alone ∙ frozen-nulls s.group s.value_kind array));
      }))))
  fine-makes s (ask.parts t raw mask) kind text = fine-parts s.group s.value_kind t mask raw kind
  fine-makes s (ask.slots xs) kind text =
      fine-where None (not (is_values_alone s) && list_all (slot_fits s.value_kind) xs) _ tt (λ both.
      let nulls = not-true (is_values_alone s)
      (and_parts (not (is_values_alone s)) (list_all (slot_fits s.value_kind) xs) both).0 in
      let all = fits-slots s xs nulls
      (and_parts (not (is_values_alone s)) (list_all (slot_fits s.value_kind) xs) both).1 text in
      fine-filled (slots_start c s) xs (λ v. if is_frozen s then frozen_value v else v)
      (last (is_frozen s) (grown c (slots_start c s) xs)
      (grown-is c (slots_start c s) (start-is c s nulls) xs all)))
    where
      not-true : (b : Bool) → not b ≡ true → b ≡ false
      not-true true e = sym e
      not-true false e = refl

      last : (array : Bool) (v : Value T) → IsValue c v → IsValue c (if array then frozen_value v else v)
      last true v is = frozen-is c v is
      last false v is = is
  fine-makes s (ask.items xs) kind text =
      fine-where None (list_all (fits s.value_kind) xs) _ tt (λ fit.
      fine-filled (empty_value c s) (map Some xs) (λ v. v)
      (grown-is c (empty_value c s) (empty-is c s) (map Some xs)
      (items-slots s xs (fits-stored s.value_kind xs fit text))))

  -- ---- what an entry holds

  -- slots that fit a value of a kind
  slot-of : (s : Shape) (x : Option (Stored T)) → slot_fits s.value_kind x ≡ true → IsTextSlot x
      → (is_some x ≡ false → is_values_alone s ≡ false) → IsSlot s x
  slot-of s None fit text nulls = nulls refl
  slot-of s (Some x) fit text nulls = record { of_value_kind = fit; text = text }

  nulls-where : (s : Shape) (x : Option (Stored T)) → (is_nullable s || not (is_none x)) ≡ true → is_some x ≡ false
      → is_values_alone s ≡ false
  nulls-where s None may none = nullable-nulls s.group s.value_kind (first (is_nullable s) may)
    where
      first : (b : Bool) → (b || false) ≡ true → b ≡ true
      first true e = e
      first false e = e
  nulls-where s (Some x) may none = absurd (true≢false none)

  fine-leaves : (w : Value T) → IsValue c w → Fine (leaves w)
  fine-leaves w kept = fine-gives done (Some w) kept

  fine-extends : (v : Value T) → IsValue c v → (xs : List (Option (Stored T))) → All (IsSlot v.shape) xs
      → Fine (Extends c v xs)
  fine-extends v of xs all reply new =
      by-bool (is_memory reply)
      (λ _ h. subst (λ (n : Option (Value T)). IfSome n (IsValue c)) (sym h.2)
      (grown-is c v of (take h.0 xs) (All-take (IsSlot v.shape) h.0 xs all)))
      (λ _ h. subst (λ (n : Option (Value T)). IfSome n (IsValue c)) (sym h.1)
      (grown-is c v of (take (fitting c v xs) xs) (All-take (IsSlot v.shape) (fitting c v xs) xs all)))

  module _ (old : Option (Value T)) (is : IfSome old (IsValue c)) where
    fine-tells : (said : Answer T) → Fine (answers old said)
    fine-tells said = fine-gives said old is

    fine-copied : (v : Value T) (transition : Transition T) → Fine transition → Fine (copying c old v transition)
    fine-copied v transition fine reply new = by-bool (is_var_binary v.shape)
        (λ _ h. fine-memory old transition is fine reply new h) (λ _ h. fine reply new h)

    fine-asks : (transition : Transition T) → Fine transition → Fine (memory old transition)
    fine-asks transition fine = fine-memory old transition is fine

    fine-becomes : (w : Value T) → IsValue c w → Fine (memory old (leaves w))
    fine-becomes w kept = fine-asks (leaves w) (fine-leaves w kept)

    ruleset fine-transitions = (
      fine-tells,
      fine-asks,
      fine-given,
      fine-copied,
      fine-leaves,
      fine-becomes,
      fine-gives,
      fine-where,
      fine-may,
      fine-extends,
      tt,
    )

    ruleset fine-values = (cut-is, frozen-is, thawed-is, nullable-is, fits-slots, nullable-nulls, items-slots, fits-stored)

    fine-transition : (asks : Ask T) (v : Value T) → IsValue c v → (effect c old asks).kinds v.shape ≡ true
        → IsTextAsk asks → Fine ((effect c old asks).transition v)
    fine-transition (ask.set_mask mask) v of for text =
        fine-where old _ _ is
        (λ fit. fine-becomes _
        (with-mask-is c v of mask (masked-nulls v.shape.group v.shape.value_kind (not (is_boolean v.shape)) for)))
    fine-transition (ask.apply_mask change) v of for text =
        fine-given old (change_of_marks change) _ is (λ of_marks got.
        fine-test v.column.held _ _
        (λ held. fine-becomes _
        (with-mask-is c v of (Some (changed of_marks (marks_of v.column)))
        (masked-nulls v.shape.group v.shape.value_kind (is_var_binary v.shape) for)))
        (λ bare. fine-leaves v of))
    fine-transition (ask.set_values xs) v of for text =
        fine-where old (nat_eq (length xs) (length v.column.rows)
        && list_all (fits v.shape.value_kind) xs) _ is (λ both.
        fine-becomes _ (with-stored-is c v of xs
        (fits-stored v.shape.value_kind xs
        (and_parts (nat_eq (length xs) (length v.column.rows)) (list_all (fits v.shape.value_kind) xs) both).1
        text)))
    fine-transition (ask.apply_values change) v of for text =
        fine-where old (change_fits v.shape.value_kind change) _ is (λ fit.
        fine-becomes _ (with-stored-is c v of (changed change (stored_values v.column))
        (changed-stored v.shape.value_kind change (stored_values v.column) fit text (stored-all c v of))))
    fine-transition (ask.set i None) v of for text =
        fine-where old _ _ is
        (λ both. fine-becomes _ (rows-is c v of true (slice_set v.column.rows i (null_in c v, false))
        (set-all (IsRow v.shape.value_kind true) v.column.rows i (null_in c v, false)
        (record { stored = default-stored c v.shape.value_kind; marked = λ bare. absurd (true≢false bare) })
        (held-rows v.shape.value_kind v.column.held true v.column.rows (λ bare. absurd (true≢false bare)) of.rows))
        (λ alone. absurd (true≢false (sym alone
        ∙ nullable-nulls v.shape.group v.shape.value_kind
        (and_parts (is_nullable v.shape) (not (is_var_binary v.shape)) for).0)))))
    fine-transition (ask.set i (Some x)) v of for text =
        fine-where old (nat_lt i (length v.column.rows)
        && fits v.shape.value_kind x) _ is
        (λ both. fine-becomes _ (rows-is c v of v.column.held (slice_set v.column.rows i (x, true))
        (set-all (IsRow v.shape.value_kind v.column.held) v.column.rows i (x, true)
        (record {
          stored = record {
            of_value_kind = (and_parts (nat_lt i (length v.column.rows)) (fits v.shape.value_kind x) both).1;
            text
                = text;
          };
          marked = λ bare. refl;
        }) of.rows)
        of.unmasked))
    fine-transition (ask.write i x) v of for text =
        fine-where old (nat_lt i (length v.column.rows) && fits v.shape.value_kind x) _ is (λ both.
        fine-may _ old _ is (fine-leaves _ (with-stored-is c v of (slice_set (stored_values v.column) i x)
        (set-all (IsStored v.shape.value_kind) (stored_values v.column) i x
        (record {
          of_value_kind = (and_parts (nat_lt i (length v.column.rows)) (fits v.shape.value_kind x) both).1;
          text = text;
        }) (stored-all c v of)))))
    fine-transition (ask.push x) v of for text =
        fine-where old (slot_fits v.shape.value_kind x && (is_nullable v.shape || not (is_none x))) _ is (λ both.
        let fit = (and_parts (slot_fits v.shape.value_kind x) (is_nullable v.shape || not (is_none x)) both).0 in
        let may = (and_parts (slot_fits v.shape.value_kind x) (is_nullable v.shape || not (is_none x)) both).1 in
        fine-over old _ _ is (fine-becomes _
        (appended-is c v of x (slot-of v.shape x fit text (nulls-where v.shape x may)))))
    fine-transition ask.push_null v of for text =
        fine-becomes _ (appended-is c v of (if is_nullable v.shape then None else Some (null_in c v))
        (null-slot v (is_nullable v.shape) refl))
      where
        null-slot : (v : Value T) (nullable : Bool) → is_nullable v.shape ≡ nullable
            → IsSlot v.shape (if nullable then None else Some (null_in c v))
        null-slot v true so = nullable-nulls v.shape.group v.shape.value_kind so
        null-slot v false other = default-stored c v.shape.value_kind
    fine-transition ask.pop v of for text =
        let short = rows-is c v of v.column.held (take (length v.column.rows - 1) v.column.rows)
        (All-take (IsRow v.shape.value_kind v.column.held) (length v.column.rows - 1) v.column.rows of.rows)
        of.unmasked in
        fine-test (is_some (last_slot v.column)) _ _ (λ _. fine-copied v _ (fine-gives _ (Some _) short))
        (λ _. fine-gives _ (Some _) short)
    fine-transition (ask.extend_constant n None) v of for text =
        fine-where old true _ is
        (λ fit. fine-becomes _
        (rows-is c v of true (v.column.rows ++ map (λ x. (x, false)) (replicate n (null_in c v)))
        (All-append (IsRow v.shape.value_kind true) v.column.rows (map (λ x. (x, false)) (replicate n (null_in c v)))
        (held-rows v.shape.value_kind v.column.held true v.column.rows (λ bare. absurd (true≢false bare)) of.rows)
        (nulled v.shape.value_kind (replicate n (null_in c v))
        (All-replicate (IsStored v.shape.value_kind) n (null_in c v) (default-stored c v.shape.value_kind))))
        (λ alone. absurd (true≢false (sym alone
        ∙ nullable-nulls v.shape.group v.shape.value_kind
        (and_parts (is_native v.shape) (is_nullable v.shape) for).1)))))
    fine-transition (ask.extend_constant n (Some x)) v of for text =
        fine-where old (fits v.shape.value_kind x) _ is
        (λ fit. fine-becomes _
        (rows-is c v of v.column.held (v.column.rows ++ map (λ x. (x, true)) (replicate n x))
        (All-append (IsRow v.shape.value_kind v.column.held) v.column.rows (map (λ x. (x, true)) (replicate n x))
        of.rows
        (valued v.shape.value_kind v.column.held (replicate n x)
        (All-replicate (IsStored v.shape.value_kind) n x (record { of_value_kind = fit; text = text }))))
        of.unmasked))
    fine-transition (ask.to t) v of for text =
        fine-provided old (IsRightType (layout c v.shape.value_kind) t) _ is
        (λ right. fine-becomes _
        (record { right_type = right; around = of.around; rows = of.rows; unmasked = of.unmasked }))
    -- what is answered alone, or leaves a value that these lemmas are about
    fine-transition _ v of for text = search (fine-transitions, fine-values)

    fine-does : (asks : Ask T) → IsTextAsk asks → Fine (Does c old asks)
    fine-does asks text = fine-kind old (effect c old asks).kinds (effect c old asks).transition is
        (λ v of for. fine-transition asks v of for text)

    fine-joins : (other : Option (Value T)) → IfSome other (IsValue c) → Fine (ExtendsFrom c old other)
    fine-joins other also =
        fine-kind old is_builder (λ v. require_some old other (AppendsRows c old v)) is
        (λ v of for. fine-given old other (AppendsRows c old v) is (λ w got.
        fine-where old (same_kind v.shape w.shape) _ is
        (λ same. fine-over old _ _ is (fine-becomes _ (joined-is c v w of (some-is other w got also) same)))))

    fine-compares : (other : Option (Value T)) → Fine (ComparesWith old other)
    fine-compares other =
        fine-kind old is_nullable (λ v. require_some old other (Compares old v)) is
        (λ v of for. fine-given old other (Compares old v) is (λ w got.
        fine-where old (same_kind v.shape w.shape) _ is (λ same reply new h. fine-tells _ reply new h.2)))

  -- transitions of an array
  module _ (v : Value T) (is : IsValue c v) where
    fine-filtered : (filter : Column Bool) → is_frozen v.shape ≡ true → Fine (Filtered filter v)
    fine-filtered filter array =
        fine-where None _ _ tt (λ same. fine-memory None _ tt (fine-gives done (Some _)
        (alone-is c v is (kernels.where_set (kernels.asked filter) v.column.rows) array
        (where-all (IsRow v.shape.value_kind v.column.held) (kernels.asked filter) v.column.rows is.rows))))

    fine-taken : (most : ℕ) (keys : List ℤ) → is_frozen v.shape ≡ true → Fine (Taken most keys v)
    fine-taken most keys array reply new =
        by-option (kernels.first_out_of_bounds (λ key. key) v.column keys)
        (λ h. fine-over None _ _ tt (fine-memory None _ tt (fine-gives done (Some _)
        (alone-is c v is (kernels.at_keys (λ key. key) keys v.column.rows) array
        (keys-all (IsRow v.shape.value_kind v.column.held) keys v.column.rows is.rows)))) reply new h)
        (λ key got h. fine-gives _ None tt reply new h)

  -- ---- the table

  pub entry-is : (state : State T) (e : ℕ) → AreValues c state → IfSome (entry_at state e) (IsValue c)
  entry-is state e all = found (slice_get state e) refl
    where
      found : (entry : Option (Option (Value T))) → slice_get state e ≡ entry
          → IfSome (option_and_then (λ (x : Option (Value T)). x) entry) (IsValue c)
      found None got = tt
      found (Some entry) got = all-at (λ (entry : Option (Value T)). IfSome entry (IsValue c)) state e entry all got

  other-is : (state : State T) (e f : ℕ) → AreValues c state → IfSome (other_at state e f) (IsValue c)
  other-is state e f all = either (e == f)
    where
      either : (same : Bool) → IfSome (if same then None else entry_at state f) (IsValue c)
      either true = tt
      either false = entry-is state f all

  fine-entry : (state : State T) (e : ℕ) (transition : Option (Value T) → Transition T) (reply : Answer T)
      (new : State T)
      → AreValues c state
      → ((old : Option (Value T)) → IfSome old (IsValue c) → Fine (transition old))
      → AtEntry state e transition reply new
      → AreValues c new
  fine-entry state e transition reply new all fine =
      by-option (slice_get state e)
      (λ h. subst (AreValues c) (sym h.1) all)
      (λ old got h. subst (AreValues c) (sym h.2)
      (set-all (λ (entry : Option (Value T)). IfSome entry (IsValue c)) state e h.0
      (fine old (all-at (λ (entry : Option (Value T)). IfSome entry (IsValue c)) state e old all got) reply h.0 h.1)
      all))

  array-of : (from : Option (Value T)) (v : Value T) → array_in from ≡ Some v
      → (from ≡ Some v) × (is_frozen v.shape ≡ true)
  array-of None v got = absurd (none got)
    where
      none : (let it : Option (Value T) = None in it) ≡ Some v → ⊥
      none e = cc
  array-of (Some w) v got = either (is_frozen w.shape) refl got
    where
      either : (array : Bool) → is_frozen w.shape ≡ array → (if array then Some w else None) ≡ Some v
          → (Some w ≡ Some v) × (is_frozen v.shape ≡ true)
      either true so got = (got, subst (λ (u : Value T). is_frozen u.shape ≡ true) (some-same w v got) so)
        where
          some-same : (a b : Value T) → Some a ≡ Some b → a ≡ b
          some-same a b e = cc
      either false other got = absurd (none got)
        where
          none : (let it : Option (Value T) = None in it) ≡ Some v → ⊥
          none e = cc

  fine-array : (from : Option (Value T)) (transition : Value T → Transition T) → IfSome from (IsValue c)
      → ((v : Value T) → IsValue c v → is_frozen v.shape ≡ true → Fine (transition v))
      → Fine (require_some None (array_in from) transition)
  fine-array from transition is fine = fine-given None (array_in from) transition tt
      (λ v got. let found = array-of from v got in fine v (some-is from v found.0 is) found.1)

  fine-puts : (transition : Transition T) (old : Option (Value T)) → IfSome old (IsValue c) → Fine transition
      → Fine (IntoEmpty transition old)
  fine-puts transition old is fine = fine-where old (is_none old) transition is (λ _. fine)

  pub fine-changes : (state : State T) (asks : Request T) (reply : Answer T) (new : State T) → IsRequest asks
      → AreValues c state → Changes c state asks reply new → AreValues c new
  fine-changes state (make e s source) reply new text all =
      fine-entry state e (IntoEmpty (Makes c s source)) reply new all
      (λ old is. fine-puts (Makes c s source) old is (fine-makes s source text.0 text.1))
  fine-changes state (at e asks) reply new text all =
      fine-entry state e (λ old. Does c old asks) reply new all (λ old is. fine-does old is asks text)
  fine-changes state (clone_to e f) reply new text all =
      fine-entry state f (IntoEmpty (Clones (entry_at state e))) reply new all (λ old is.
      fine-puts (Clones (entry_at state e)) old is
      (fine-given None (entry_at state e) _ tt
      (λ w got. fine-memory None _ tt
      (fine-gives done (Some w) (some-is (entry_at state e) w got (entry-is state e all))))))
  fine-changes state (extend_from e f) reply new text all =
      fine-entry state e (λ old. ExtendsFrom c old (other_at state e f)) reply new all
      (λ old is. fine-joins old is (other_at state e f) (other-is state e f all))
  fine-changes state (equal e f) reply new text all =
      fine-entry state e (λ old. ComparesWith old (entry_at state f)) reply new all
      (λ old is. fine-compares old is (entry_at state f))
  fine-changes state (filter_to e f g) reply new text all =
      fine-entry state g (IntoEmpty (Filters (entry_at state e) (entry_at state f))) reply new all (λ old is.
      fine-puts (Filters (entry_at state e) (entry_at state f)) old is
      (fine-given None (filter_in (entry_at state f)) _ tt
      (λ filter got. fine-array (entry_at state e) (Filtered filter) (entry-is state e all)
      (λ v of array. fine-filtered v of filter array))))
  fine-changes state (take_to e keys g) reply new text all =
      fine-entry state g (IntoEmpty (TakesKeys c.most keys (entry_at state e))) reply new all (λ old is.
      fine-puts (TakesKeys c.most keys (entry_at state e)) old is
      (fine-array (entry_at state e) (Taken c.most keys) (entry-is state e all)
      (λ v of array. fine-taken v of c.most keys array)))
  fine-changes state (check_indexes keys n) reply new text all = λ h. subst (AreValues c) (sym h.1) all

  -- ---- runs

  pub fine-run : (old : TableState T) (requests : List (Request T)) (replies : List (Answer T)) (new : TableState T)
      → All IsRequest requests → AreValues c old.entries → IsRun c old requests replies new → AreValues c new.entries
  fine-run old [] [] new named all run = subst (λ (state : TableState T). AreValues c state.entries) (sym run) all
  fine-run old [] (reply ∷ replies) new named all run = absurd run
  fine-run old (asks ∷ requests) [] new named all run = absurd run
  fine-run old (asks ∷ requests) (reply ∷ replies) new named all run =
      fine-run run.0 requests replies new (All-tail IsRequest asks requests named)
      (fine-changes old.entries asks reply run.0.entries (All-head IsRequest asks requests named) all run.1.0) run.2

-- ---- two tables

module _ {T : Type 0} where
  over-is : (c d : Types T) (v : Value T) → IsValue c v → IsValue d (with_offset_width d v)
  over-is c d v is = record
      { right_type = default-right d v.shape.value_kind; around = is.around; rows = is.rows; unmasked = is.unmasked }

  items-of : (from : Option (Value T)) (v : Value T) → items_in from ≡ Some v → from ≡ Some v
  items-of None v got = got
  items-of (Some w) v got = either (is_frozen w.shape && is_var_binary w.shape) got
    where
      either : (items : Bool) → (if items then Some w else None) ≡ Some v → Some w ≡ Some v
      either true got = got
      either false got = absurd (none got)
        where
          none : (let it : Option (Value T) = None in it) ≡ Some v → ⊥
          none e = cc

  fine-widens : (c d : Types T) (from : Option (Value T)) → IfSome from (IsValue c) → Fine d (Widens d from)
  fine-widens c d from is = fine-given d None (items_in from) _ tt
      (λ v got. fine-memory d None _ tt
      (fine-gives d done (Some (with_offset_width d v)) (over-is c d v (some-is c from v (items-of from v got) is))))

  fine-narrows : (c d : Types T) (from : Option (Value T)) → IfSome from (IsValue c) → Fine d (Narrows d from)
  fine-narrows c d from is =
      fine-given d None (items_in from) _ tt
      (λ v got. fine-over d None _ _ tt
      (fine-memory d None _ tt
      (fine-gives d done (Some (with_offset_width d v))
      (over-is c d v (some-is c from v (items-of from v got) is)))))

  module _ (zero : T) (primitive : PrimitiveType) where
    pub fine-both : (old : Both T) (asks : BothRequest T) (reply : Answer T) (new : Both T) → IsBothRequest asks
        → AreValues (narrow_types zero primitive) old.narrow.entries
        → AreValues (wide_types zero primitive) old.wide.entries → IsBothStep zero primitive old asks reply new
        → AreValues (narrow_types zero primitive) new.narrow.entries
        × AreValues (wide_types zero primitive) new.wide.entries
    fine-both old (narrow asks) reply new named small large h = (
      fine-changes (narrow_types zero primitive) old.narrow.entries asks reply new.narrow.entries named small
          h.0.0,
      subst (λ (state : TableState T). AreValues (wide_types zero primitive) state.entries) (sym h.1) large,
    )
    fine-both old (wide asks) reply new named small large h = (
      subst (λ (state : TableState T). AreValues (narrow_types zero primitive) state.entries) (sym h.1) small,
      fine-changes
          (wide_types zero primitive) old.wide.entries asks reply new.wide.entries named large h.0.0,
    )
    fine-both old (widen e f) reply new named small large h =
        let c = narrow_types zero primitive in let d = wide_types zero primitive in (
          subst (λ (state : TableState T). AreValues c state.entries) (sym h.2) small,
          fine-entry d old.wide.entries f (IntoEmpty (Widens d (entry_at old.narrow.entries e))) reply
              new.wide.entries large
              (λ kept is. fine-puts d (Widens d (entry_at old.narrow.entries e)) kept is
              (fine-widens c d (entry_at old.narrow.entries e) (entry-is c old.narrow.entries e small))) h.0,
        )
    fine-both old (narrow_to e f) reply new named small large h =
        let c = wide_types zero primitive in let d = narrow_types zero primitive in (
          fine-entry d old.narrow.entries f (IntoEmpty (Narrows d (entry_at old.wide.entries e))) reply
              new.narrow.entries small
              (λ kept is. fine-puts d (Narrows d (entry_at old.wide.entries e)) kept is
              (fine-narrows c d (entry_at old.wide.entries e) (entry-is c old.wide.entries e large))) h.0,
          subst (λ (state : TableState T). AreValues c state.entries) (sym h.2) large,
        )

    pub fine-both-run : (old : Both T) (requests : List (BothRequest T)) (replies : List (Answer T)) (new : Both T)
        → All IsBothRequest requests → AreValues (narrow_types zero primitive) old.narrow.entries
        → AreValues (wide_types zero primitive) old.wide.entries
        → Runs (IsBothStep zero primitive) old requests replies new
        → AreValues (narrow_types zero primitive) new.narrow.entries
        × AreValues (wide_types zero primitive) new.wide.entries
    fine-both-run old [] [] new named small large run = (
      subst (λ (both : Both T). AreValues (narrow_types zero primitive) both.narrow.entries) (sym run) small,
      subst (λ (both : Both T). AreValues (wide_types zero primitive) both.wide.entries) (sym run) large,
    )
    fine-both-run old [] (reply ∷ replies) new named small large run = absurd run
    fine-both-run old (asks ∷ requests) [] new named small large run = absurd run
    fine-both-run old (asks ∷ requests) (reply ∷ replies) new named small large run =
        let next = fine-both old asks reply run.0 (All-head IsBothRequest asks requests named) small large run.1 in
        fine-both-run run.0 requests replies new (All-tail IsBothRequest asks requests named) next.0 next.1 run.2
