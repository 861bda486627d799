-- Lemmas about selections.
use Rattle.std.proofs.Common.{◌≡◌, ◌∙◌, ◌∷◌, ◌++◌, ◌+◌, ◌<◌, [], ℕ, List, Some, None, ap, drop}
use Rattle.std.proofs.Common.{get_or, length, map, refl, sym, take}
use Rattle.std.specs.Prelude.{Result, String, is_none, string_bytes}
use Rattle.std.specs.declared.alloc.Global.{Global}
use Rattle.std.specs.List.{filter_map}
use Rattle.std.proofs.lemmas.List.{drop_more, map-append, take-append-drop, take_more}
use Rattle.std.proofs.lemmas.List.Elements.{filter_map-append}
use Rattle.std.proofs.lemmas.List.Folds.{find-append}
use Rattle.example_record_batch.specs.declared.any.AnyArray.{AnyArray}
use Rattle.example_record_batch.specs.Batches.{Batch, column_of}
use Rattle.example_csv.specs.declared.error.Error.{Error}
use Rattle.example_csv.specs.declared.error.Error.TheVariants as error
use Rattle.example_csv.specs.Selecting.{Explains, Reason, and_then, column_named, unknown_name}

-- a step that gives no value is the reason why the steps together give none
pub explains_then : {A B : Type 0} (f : A → Result B Reason) (r : Result A Reason) (e : Error) → Explains r e →
    Explains (and_then f r) e
explains_then f r (error.UnknownColumn name) h = rw h refl
explains_then f r (error.NotTruth name) h = rw h refl
explains_then f r (error.NotNumbers name) h = rw h refl
explains_then f r (error.SumOverflow overflow) h = h
explains_then f r (error.Arrow e) h = h
explains_then f r error.OutOfMemory h = h
explains_then f r (error.Csv e) h = h
explains_then f r (error.Io e) h = h
explains_then f r error.NoHeader h = h
explains_then f r (error.Field line column wanted) h = h

-- a known name more
pub known-more : (batch : Batch) (names : List (List ℕ)) (name : List ℕ) (array : AnyArray) → unknown_name batch
    names ≡ None
    → column_of batch name ≡ Some array → unknown_name batch (names ++ name ∷ []) ≡ None
known-more batch names name array known found =
    find-append (λ name. is_none (column_of batch name)) names (name ∷ []) ∙ rw (known, found) refl

pub columns-more : (batch : Batch) (names : List (List ℕ)) (name : List ℕ) (array : AnyArray) → column_of batch
    name ≡ Some array
    → filter_map (column_named batch) (names ++ name ∷ [])
    ≡ filter_map (column_named batch) names ++ record { name = name; array = array } ∷ []
columns-more batch names name array found =
    filter_map-append (column_named batch) names (name ∷ []) ∙ rw found refl

-- the first unknown name
pub unknown-found : (batch : Batch) (names after : List (List ℕ)) (name : List ℕ) → unknown_name batch names ≡ None
    → column_of batch name ≡ None → unknown_name batch (names ++ name ∷ after) ≡ Some name
unknown-found batch names after name known none =
    find-append (λ name. is_none (column_of batch name)) names (name ∷ after) ∙ rw (known, none) refl

-- the texts of one string more
pub texts-more : (strings : List (String Global)) (i : ℕ) (string : String Global) → i < length strings
    → string ≡ get_or strings i string
    → map string_bytes (take (i + 1) strings) ≡ map string_bytes (take i strings) ++ string_bytes string ∷ []
texts-more strings i string within e =
    rw (take_more strings i string within, ← e, map-append string_bytes (take i strings) (string ∷ [])) refl

-- the texts before, at and behind a place
pub texts-split : (strings : List (String Global)) (i : ℕ) (string : String Global) → i < length strings
    → string ≡ get_or strings i string
    → map string_bytes strings
    ≡ map string_bytes (take i strings) ++ string_bytes string ∷ map string_bytes (drop (i + 1) strings)
texts-split strings i string within e =
    ap (map string_bytes)
    (sym (take-append-drop i strings) ∙ ap (λ rest. take i strings ++ rest) (drop_more strings i string within))
    ∙ map-append string_bytes (take i strings) (get_or strings i string ∷ drop (i + 1) strings)
    ∙ ap (λ found. map string_bytes (take i strings) ++ string_bytes found ∷ map string_bytes (drop (i + 1) strings))
    (sym e)
