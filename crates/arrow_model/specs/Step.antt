-- What each command does to the entries that it names, and what it answers. Where a transition allows more than one
-- answer, it says so by `or_else_keep`, or by `memory` if the other answer is out of memory. Of the names of one letter
-- c is the types of the table, v and w are values, e, f and g numbers of entries, t a data type, x an item or a slot.
use Rattle.std.specs.Prelude.{◌≡◌, ◌↔◌, ℕ, ℤ, ◌-◌, ◌==◌, ◌<◌, Bool, true, false, not, ◌&&◌, ◌||◌, nat_le, nat_lt}
use Rattle.std.specs.Prelude.{nat_eq, List, [], ◌∷◌, length, map, take, replicate, count_by, find, is_none, is_some}
use Rattle.std.specs.Prelude.{Option, Some, None, option_and_then, MatchOption, MatchBool, IsTrue, slice_get}
use Rattle.std.specs.Prelude.{slice_set, if◌then◌else◌}
use Rattle.std.specs.List.{list_all}
use Rattle.std.specs.Option.{option_map_or}
use Rattle.arrow_types.specs.Types.{IsRightType, overflow}
use Rattle.arrow_column.specs.Column.{Column, ColumnWith, slots_of, stored_values, marks_of}
use Rattle.arrow_column.specs.Column.{append_nulls, append_values, last_slot, joined, with_slot, with_stored}
use Rattle.arrow_column.specs.Column.{with_type}
use Rattle.arrow_check.specs.Indexes.{in_bounds, key_refusal}
use Rattle.arrow_check.specs.Reading.{Cost}
use Rattle.arrow_bytes.specs.Pieces.{Around, nothing_around}
use Rattle.arrow_bytes.specs.Selection.{filtered, taken, first_out_of_bounds, taking_overflows}
use Rattle.arrow_model.specs.Kind.{Shape, any_kind, is_frozen, is_nullable, is_values_alone, is_builder, is_native}
use Rattle.arrow_model.specs.Kind.{is_boolean, is_var_binary, same_kind, reads_values, sets_mask, applies_mask}
use Rattle.arrow_model.specs.Item.{Stored, bytes_item, fits, slot_fits, takes_slot, can_replace, changed, change_fits}
use Rattle.arrow_model.specs.Item.{change_of_marks}
use Rattle.arrow_model.specs.Request.{Source, Ask, Request, make, at, clone_to, extend_from, equal, filter_to}
use Rattle.arrow_model.specs.Request.{take_to, check_indexes, cut_pieces}
use Rattle.arrow_model.specs.Request as ask
use Rattle.arrow_model.specs.Answer.{Answer, done, not_met, number, flag, numbers, typed, right, refused, is_memory}
use Rattle.arrow_model.specs.Answer.{is_not_given, is_left}
use Rattle.arrow_model.specs.Answer as answer
use Rattle.arrow_model.specs.Value.{Value, State, TableState, Types, layout}
use Rattle.arrow_model.specs.Transition.{Transition, gives, leaves, or_else_keep, memory, answers, require_some}
use Rattle.arrow_model.specs.Transition.{where_true, provided, of_kind, by_test}
use Rattle.arrow_model.specs.Parts.{PartsTransition, PartsCost}
use Rattle.arrow_model.specs.Change.{turns_of, with_column, with_value_mask, without_last_slot, cut_value, frozen_value}
use Rattle.arrow_model.specs.Change.{thawed_value, nullable_value, empty_value, slots_start, nulls_value, all_bytes}
use Rattle.arrow_model.specs.Change.{all_offsets, null_in, grown, null_pushed, slot_over, join_over, fitting}
use Rattle.arrow_model.specs.Chosen.{bytes_column, array_in, filter_in}

-- if `over` holds, the command is refused for an overflow, which takes precedence over memory; else this transition
abbrev pub unless_over : {T : Type 0} → Option (Value T) → Bool → Transition T → Transition T
unless_over old over transition reply new =
    MatchBool over (answers old (refused overflow) reply new) (transition reply new)

-- a command on one entry: the kinds that it is for, and its transition for a value of such a kind
pub record Effect (T : Type 0) : Type 1 where
  pub kinds : Shape → Bool
  pub transition : Value T → Transition T

abbrev pub on : {T : Type 0} → (Shape → Bool) → (Value T → Transition T) → Effect T
on kinds transition = record { kinds = kinds; transition = transition }

module _ {T : Type 0} (c : Types T) where
  -- whether offsets can express the ends of all these slots
  abbrev pub all_fit : Value T → List (Option (Stored T)) → Bool
  all_fit v slots = nat_eq (fitting c v slots) (length slots)

  -- a new value with these slots appended, and then `last` of it; the command is refused for an overflow if offsets
  -- can't express the end of a slot, or for memory, whichever comes first
  abbrev pub Filled : Value T → List (Option (Stored T)) → (Value T → Value T) → Transition T
  Filled start slots last = memory None
      (unless_over None (not (all_fit start slots)) (leaves (last (grown c start slots))))

  -- a new value of slots, and one of items, of which none is null
  abbrev pub SlotsFill : Shape → List (Option (Stored T)) → Transition T
  SlotsFill s slots = Filled (slots_start c s) slots (λ v. if is_frozen s then frozen_value v else v)

  abbrev pub ItemsFill : Shape → List (Stored T) → Transition T
  ItemsFill s items = Filled (empty_value c s) (map Some items) (λ v. v)

  -- a value of a kind is made in an empty entry
  abbrev pub Makes : Shape → Source T → Transition T
  Makes s ask.nothing = memory None (leaves (empty_value c s))
  Makes s (ask.nulls t n) =
      where_true None (is_frozen s)
      (provided None (IsRightType (layout c s.value_kind) t) (memory None (leaves (nulls_value c s t n))))
  Makes s (ask.parts t raw mask) = PartsTransition c s t mask raw
  Makes s (ask.slots slots) =
      where_true None (not (is_values_alone s) && list_all (slot_fits s.value_kind) slots) (SlotsFill s slots)
  Makes s (ask.items items) = where_true None (list_all (fits s.value_kind) items) (ItemsFill s items)

  -- slots appended in order: all that precede the first whose end offsets can't express; or, if the command is refused
  -- for memory, fewer of them
  abbrev pub Extends : Value T → List (Option (Stored T)) → Transition T
  Extends v slots reply new =
      MatchBool (is_memory reply)
      ((k : ℕ) × (k < fitting c v slots) × (new ≡ Some (grown c v (take k slots))))
      (gives (if all_fit v slots then done else refused overflow) (Some (grown c v (take (fitting c v slots) slots)))
      reply new)

  -- transitions of an entry; `old` is what it held before
  module _ (old : Option (Value T)) where
    infixl 10 ◌>>=◌ ◌>>◌
    abbrev ◌>>=◌ : {A : Type 0} → Option A → (A → Transition T) → Transition T
    found >>= transition = require_some old found transition

    abbrev ◌>>◌ : Bool → Transition T → Transition T
    test >> transition = where_true old test transition

    -- this is answered, and nothing changes
    abbrev pub tells : Answer T → Transition T
    tells = answers old

    -- a transition whose answer copies an item: copying bytes or text may fail if an allocation fails
    abbrev pub copying : Value T → Transition T → Transition T
    copying v transition reply new =
        MatchBool (is_var_binary v.shape) (memory old transition reply new) (transition reply new)

    -- the value gets this column, unless an allocation fails
    abbrev pub becomes : Value T → ColumnWith Around (Stored T) → Transition T
    becomes v column = memory old (leaves (with_column v column))

    -- what a command asks of an entry: the kinds that it is for, and what it does to a value of such a kind
    abbrev pub effect : Ask T → Effect T
    effect ask.len = on any_kind (λ v. tells (number (length v.column.rows)))
    effect (ask.value i) =
        on reads_values (λ v. slice_get (stored_values v.column) i >>= (λ x. copying v (tells (answer.slot (Some x)))))
    effect (ask.get i) =
        on is_frozen (λ v. slice_get (slots_of v.column) i >>= (λ x. copying v (tells (answer.slot x))))
    effect (ask.is_null i) = on is_frozen (λ v. slice_get (marks_of v.column) i >>= (λ mark. tells (flag (not mark))))
    effect ask.null_count = on is_frozen (λ v. tells (number (count_by not (marks_of v.column))))
    effect ask.all_slots = on any_kind (λ v. memory old (tells (answer.slots (slots_of v.column))))
    effect (ask.turns turns) =
        on any_kind (λ v. memory old (tells (answer.slots (turns_of turns (stored_values v.column)))))
    effect ask.type_of = on any_kind (λ v. memory old (tells (typed v.column.data_type)))
    effect ask.held = on any_kind (λ v. tells (flag v.column.held))
    effect ask.bytes = on is_var_binary (λ v. memory old (tells (answer.slot (Some (bytes_item false (all_bytes v))))))
    effect ask.offsets = on is_var_binary (λ v. memory old (tells (numbers (all_offsets v))))
    effect (ask.slice a n) =
        on is_frozen (λ v.
        (nat_le a (length v.column.rows) && nat_le n (length v.column.rows - a)) >> leaves (cut_value v a n))
    effect ask.empty = on any_kind (λ v. gives done None)
    effect (ask.set_mask mask) =
        on sets_mask (λ v.
        option_map_or (λ marks. nat_eq (length marks) (length v.column.rows)) mask true >>
        memory old (leaves (with_value_mask v mask)))
    effect (ask.apply_mask change) =
        on applies_mask (λ v.
        change_of_marks change >>= (λ of_marks.
        by_test v.column.held
        (memory old (leaves (with_value_mask v (Some (changed of_marks (marks_of v.column)))))) (leaves v)))
    effect (ask.set_values items) =
        on (λ s. is_native s || (is_boolean s && is_frozen s)) (λ v.
        can_replace v.shape.value_kind (length v.column.rows) items >> becomes v (with_stored v.column items))
    effect (ask.apply_values change) =
        on (λ s. (is_native s && is_nullable s) || (is_boolean s && is_frozen s)) (λ v.
        change_fits v.shape.value_kind change >> becomes v
        (with_stored v.column (changed change (stored_values v.column))))
    effect (ask.set i x) =
        on (λ s. is_nullable s && not (is_var_binary s)) (λ v.
        (nat_lt i (length v.column.rows) && slot_fits v.shape.value_kind x) >>
        becomes v (with_slot (null_in c v) v.column i x))
    effect (ask.write i x) =
        on is_native (λ v.
        (nat_lt i (length v.column.rows) && fits v.shape.value_kind x) >>
        or_else_keep (λ reply. is_frozen v.shape && is_not_given reply) old
        (leaves (with_column v (with_stored v.column (slice_set (stored_values v.column) i x)))))
    effect (ask.push x) =
        on is_builder (λ v.
        takes_slot v.shape x >> unless_over old (slot_over c v x) (memory old (leaves (grown c v (x ∷ [])))))
    effect ask.push_null = on is_builder (λ v. memory old (leaves (null_pushed c v)))
    effect ask.pop =
        on is_builder (λ v.
        let popped : Transition T = gives (answer.slot (last_slot v.column)) (Some (without_last_slot v)) in
        by_test (is_some (last_slot v.column)) (copying v popped) popped)
    effect (ask.extend slots) = on is_nullable (λ v. list_all (slot_fits v.shape.value_kind) slots >> Extends v slots)
    effect (ask.extend_values items) =
        on is_builder (λ v. list_all (fits v.shape.value_kind) items >> Extends v (map Some items))
    effect (ask.extend_constant n x) =
        on (λ s. is_native s && is_nullable s) (λ v.
        slot_fits v.shape.value_kind x >>
        becomes v (option_map_or (λ given. append_values v.column (replicate n given)) x
        (append_nulls v.column (replicate n (null_in c v)))))
    effect ask.reserve = on is_builder (λ v. memory old (leaves v))
    effect ask.shrink = on is_builder (λ v. memory old (leaves v))
    effect ask.freeze = on is_builder (λ v. or_else_keep is_memory None (leaves (frozen_value v)))
    effect ask.thaw = on is_frozen (λ v. or_else_keep is_left old (gives right (Some (thawed_value v))))
    effect ask.nullable = on is_values_alone (λ v. leaves (nullable_value v))
    effect (ask.to t) =
        on is_native (λ v. provided old (IsRightType (layout c v.shape.value_kind) t)
        (becomes v (with_type v.column t)))

    abbrev pub Does : Ask T → Transition T
    Does asks = of_kind old (effect asks).kinds (effect asks).transition

    -- the rows of a builder of the same kind, which another entry holds, are appended
    abbrev pub AppendsRows : Value T → Value T → Transition T
    AppendsRows v w =
        same_kind v.shape w.shape >>
        unless_over old (join_over c v w) (memory old (leaves (with_column v (joined v.column w.column))))

    abbrev pub ExtendsFrom : Option (Value T) → Transition T
    ExtendsFrom other = of_kind old is_builder (λ v. other >>= AppendsRows v)

-- whether a builder with nulls of the same kind has the same slots: types, held masks and values under nulls are
-- not compared
module _ {T : Type 0} (old : Option (Value T)) where
  abbrev pub Compares : Value T → Value T → Transition T
  Compares v w =
      where_true old (same_kind v.shape w.shape) (λ reply new.
      (same : Bool) × (IsTrue same ↔ slots_of v.column ≡ slots_of w.column) × answers old (flag same) reply new)

  abbrev pub ComparesWith : Option (Value T) → Transition T
  ComparesWith other = of_kind old is_nullable (λ v. require_some old other (Compares v))

-- an array that a kernel makes of another: of the rows where a filter of equal length is valid and true, or of the rows
-- at keys; a key that is out of bounds, and then an overflow, take precedence over memory
module _ {T : Type 0} where
  abbrev pub Filtered : Column Bool → Value T → Transition T
  Filtered filter v =
      where_true None (nat_eq (length filter.rows) (length v.column.rows))
      (memory None (leaves (with_column v (filtered nothing_around v.column filter))))

  abbrev pub Taken : ℕ → List ℤ → Value T → Transition T
  Taken most keys v reply new =
      MatchOption (first_out_of_bounds (λ key. key) v.column keys)
      (unless_over None (taking_overflows most (λ key. key) (bytes_column v.column) keys)
      (memory None (leaves (with_column v (taken nothing_around (λ key. key) v.column keys)))) reply new)
      (λ key. answers None (refused (key_refusal key)) reply new)

  abbrev pub Filters : Option (Value T) → Option (Value T) → Transition T
  Filters from by = require_some None (filter_in by) (λ filter. require_some None (array_in from) (Filtered filter))

  abbrev pub TakesKeys : ℕ → List ℤ → Option (Value T) → Transition T
  TakesKeys most keys from = require_some None (array_in from) (Taken most keys)

  -- a copy of what an entry holds, of any kind
  abbrev pub Clones : Option (Value T) → Transition T
  Clones from = require_some None from (λ v. memory None (leaves v))

  -- the condition that the entry to be filled is empty
  abbrev pub IntoEmpty : Transition T → Option (Value T) → Transition T
  IntoEmpty transition old = where_true old (is_none old) transition

-- what stands in an entry; nothing where it is empty or out of bounds
abbrev pub entry_at : {T : Type 0} → State T → ℕ → Option (Value T)
entry_at state e = option_and_then (λ entry. entry) (slice_get state e)

-- what stands in another entry; nothing where it is the same one
abbrev pub other_at : {T : Type 0} → State T → ℕ → ℕ → Option (Value T)
other_at state e f = if e == f then None else entry_at state f

-- a transition of one entry of the table: every other entry stays; if there is no such entry it is `not_met`
abbrev pub AtEntry : {T : Type 0} → State T → ℕ → (Option (Value T) → Transition T) → Answer T → State T → Type 0
AtEntry state e transition reply new =
    MatchOption (slice_get state e) ((reply ≡ not_met) × (new ≡ state)) (λ old.
    (kept : _) × transition old reply kept × (new ≡ slice_set state e kept))

-- the answer of a test of keys: the refusal of the first that is out of bounds
abbrev pub keys_answer : {T : Type 0} → List ℤ → ℕ → Answer T
keys_answer keys n = option_map_or (λ key. refused (key_refusal key)) (find (λ key. not (in_bounds n key)) keys) done

-- what one command does to the entries
abbrev pub Changes : {T : Type 0} → Types T → State T → Request T → Answer T → State T → Type 0
Changes c state (make e s source) = AtEntry state e (IntoEmpty (Makes c s source))
Changes c state (at e asks) = AtEntry state e (λ old. Does c old asks)
Changes c state (clone_to e f) = AtEntry state f (IntoEmpty (Clones (entry_at state e)))
Changes c state (extend_from e f) = AtEntry state e (λ old. ExtendsFrom c old (other_at state e f))
Changes c state (equal e f) = AtEntry state e (λ old. ComparesWith old (entry_at state f))
Changes c state (filter_to e f g) = AtEntry state g (IntoEmpty (Filters (entry_at state e) (entry_at state f)))
Changes c state (take_to e keys g) = AtEntry state g (IntoEmpty (TakesKeys c.most keys (entry_at state e)))
Changes c state (check_indexes keys n) = λ reply new. (reply ≡ keys_answer keys n) × (new ≡ state)

-- what a command's tests of text cost: only the command `Parts` with offsets and bytes has such tests
abbrev pub StepCosts : {T : Type 0} → Request T → Answer T → Cost → Cost → Type 0
StepCosts (make e s (ask.parts t (cut_pieces starts bytes) mask)) reply old new =
    PartsCost s mask starts bytes reply old new
StepCosts _ reply old new = new ≡ old

-- one command
abbrev pub IsStep : {T : Type 0} → Types T → TableState T → Request T → Answer T → TableState T → Type 0
IsStep c old asks reply new = Changes c old.entries asks reply new.entries × StepCosts asks reply old.cost new.cost
