-- Every command is a request: its kinds exist, and its text is UTF-8, as every `String` is.
use Rattle.std.proofs.Common.{ℤ, List, [], ◌∷◌, map, Option, Some, None, refl, string_bytes}
use Rattle.std.proofs.lemmas.List.Elements.{All-nil, All-cons}
use Rattle.std.proofs.lemmas.Str.{IsUtf8-string_bytes}
use Rattle.std.specs.Prelude.{All}
use Rattle.arrow_check.proofs.CallerLemmas.{well_formed-IsUtf8}
use Rattle.arrow_model.specs.declared.command.BothCommand.{BothCommand}
use Rattle.arrow_model.specs.declared.command.BothCommand.TheVariants as both
use Rattle.arrow_model.specs.declared.command.Command.{Command}
use Rattle.arrow_model.specs.declared.command.Command.TheVariants as command
use Rattle.arrow_model.specs.declared.item.Change.{Change}
use Rattle.arrow_model.specs.declared.item.Change.TheVariants as named
use Rattle.arrow_model.specs.declared.item.Item.{Item}
use Rattle.arrow_model.specs.declared.item.Item.TheVariants as item
use Rattle.arrow_model.specs.declared.kind.Kind.{Kind}
use Rattle.arrow_model.specs.declared.kind.Kind.TheVariants as kinds
use Rattle.arrow_model.specs.Both.{both_request}
use Rattle.arrow_model.specs.Item.{stored_item, stored_slot, change_of}
use Rattle.arrow_model.specs.Kind.{shape}
use Rattle.arrow_model.specs.Request.{as_request}
use Rattle.arrow_model.specs.Both.{IsBothRequest}
use Rattle.arrow_model.specs.Item.{IsText, IsTextChange, IsTextSlot}
use Rattle.arrow_model.specs.Kind.{IsKind}
use Rattle.arrow_model.specs.Request.{IsRequest}

kind-is : (k : Kind) → IsKind (shape k)
kind-is kinds.Primitive = λ is. is
kind-is kinds.Boolean = λ is. is
kind-is kinds.Binary = λ is. refl
kind-is kinds.Utf8 = λ is. refl
kind-is kinds.MutablePrimitive = λ is. is
kind-is kinds.MutableBoolean = λ is. is
kind-is kinds.MutableBinary = λ is. refl
kind-is kinds.MutableUtf8 = λ is. refl
kind-is kinds.BinaryValues = λ is. refl
kind-is kinds.Utf8Values = λ is. refl

module _ {T : Type 0} where
  item-text : (x : Item T) → IsText (stored_item x)
  item-text (item.Value x) = tt
  item-text (item.Bit b) = tt
  item-text (item.Bytes v) = tt
  item-text (item.Text s) = (well_formed-IsUtf8 (string_bytes s)).1 (IsUtf8-string_bytes s)

  slot-text : (x : Option (Item T)) → IsTextSlot (stored_slot x)
  slot-text None = tt
  slot-text (Some x) = item-text x

  items-text : (xs : List (Item T)) → All IsText (map stored_item xs)
  items-text [] = All-nil IsText
  items-text (x ∷ xs) = All-cons IsText (stored_item x) (map stored_item xs) (item-text x) (items-text xs)

  slots-text : (xs : List (Option (Item T))) → All IsTextSlot (map stored_slot xs)
  slots-text [] = All-nil IsTextSlot
  slots-text (x ∷ xs) = All-cons IsTextSlot (stored_slot x) (map stored_slot xs) (slot-text x) (slots-text xs)

  change-text : (change : Change T) → IsTextChange (change_of change)
  change-text (named.Fill x) = item-text x
  change-text named.Reverse = tt

ruleset texts = (kind-is, item-text, slot-text, items-text, slots-text, change-text, tt)

module _ {T O : Type 0} (number : O → ℤ) where
  -- one case is written out, for the others to be split; each is a kind, and a text where it names any
  pub request-is : (asks : Command T O) → IsRequest (as_request number asks)
  request-is (command.Len e) = tt
  request-is _ = search texts

  pub all-requests : (commands : List (Command T O)) → All IsRequest (map (as_request number) commands)
  all-requests [] = All-nil IsRequest
  all-requests (asks ∷ commands) =
      All-cons IsRequest (as_request number asks) (map (as_request number) commands) (request-is asks) (all-requests commands)

module _ {T : Type 0} where
  pub both-is : (asks : BothCommand T) → IsBothRequest (both_request asks)
  both-is (both.Narrow asks) = request-is (λ offset. offset) asks
  both-is (both.Wide asks) = request-is (λ offset. offset) asks
  both-is (both.Widen e f) = tt
  both-is (both.NarrowTo e f) = tt

  pub all-both : (commands : List (BothCommand T)) → All IsBothRequest (map both_request commands)
  all-both [] = All-nil IsBothRequest
  all-both (asks ∷ commands) =
      All-cons IsBothRequest (both_request asks) (map both_request commands) (both-is asks) (all-both commands)
