-- Lemmas about lists of items of a kind, and which of them offsets cut out of bytes.
use Rattle.std.proofs.Common.{◌≡◌, ℕ, ◌+◌, ◌<◌, ◌≤◌, List, [], ◌∷◌, ◌++◌, Bool, true, false, length, take, drop}
use Rattle.std.proofs.Common.{replicate, slice_get, Some, refl, sym, subst}
use Rattle.std.specs.Prelude.{slice_range}
use Rattle.std.proofs.lemmas.List.Elements.{All-nil, All-replicate, All-get_or, All-append, All-push, All-take}
use Rattle.std.proofs.lemmas.List.Elements.{All-drop}
use Rattle.std.proofs.lemmas.Option.{get_or_from_slice_get, slice_get_within}
use Rattle.arrow_memory.specs.Offsets.{first_of, last_of, IsOffsets, moved_behind}
use Rattle.arrow_check.specs.Pieces.{items_of}
use Rattle.arrow_check.specs.Utf8.{IsWellFormed}
use Rattle.arrow_bytes.specs.Kinds.{AreItems, IsItem}
use Rattle.arrow_bytes.proofs.PieceLemmas as piece

-- ---- lists of items

empty-item : (text : Bool) → IsItem text []
empty-item true = ([], tt, refl)
empty-item false = tt

pub no-items : (text : Bool) → AreItems text []
no-items true = All-nil IsWellFormed
no-items false = tt

empty-items : (text : Bool) (n : ℕ) → AreItems text (replicate n [])
empty-items true n = All-replicate IsWellFormed n [] (empty-item true)
empty-items false n = tt

cut-of : (text : Bool) (a n : ℕ) (items : List (List ℕ)) → AreItems text items → AreItems text (take n (drop a items))
cut-of true a n items all = All-take IsWellFormed n (drop a items) (All-drop IsWellFormed a items all)
cut-of false a n items all = tt

take-of : (text : Bool) (n : ℕ) (items : List (List ℕ)) → AreItems text items → AreItems text (take n items)
take-of true n items all = All-take IsWellFormed n items all
take-of false n items all = tt

join-of : (text : Bool) (items others : List (List ℕ)) → AreItems text items → AreItems text others
    → AreItems text (items ++ others)
join-of true items others all more = All-append IsWellFormed items others all more
join-of false items others all more = tt

pub push-of : (text : Bool) (items : List (List ℕ)) (item : List ℕ) → AreItems text items → IsItem text item
    → AreItems text (items ++ item ∷ [])
push-of true items item all one = All-push IsWellFormed items item all one
push-of false items item all one = tt

-- an item of a list of items
pub item-at : (text : Bool) (items : List (List ℕ)) (i : ℕ) (item : List ℕ) → slice_get items i ≡ Some item
    → AreItems text items → IsItem text item
item-at true items i item found all = subst IsWellFormed (get_or_from_slice_get items i item [] found)
    (All-get_or IsWellFormed items i [] (slice_get_within items i item found) all)
item-at false items i item found all = tt

-- ---- items that offsets cut out of bytes, as these change

pub kinds-cut : (text : Bool) (a n : ℕ) (os bytes : List ℕ) → AreItems text (items_of os bytes)
    → AreItems text (items_of (take (n + 1) (drop a os)) bytes)
kinds-cut text a n os bytes all = subst (AreItems text) (sym (piece.items-cut a n os bytes))
    (cut-of text a n (items_of os bytes) all)

pub kinds-zeros : (text : Bool) (n : ℕ) → AreItems text (items_of (replicate (n + 1) 0) [])
kinds-zeros text n = subst (AreItems text) (sym (piece.zeros-items n)) (empty-items text n)

pub kinds-thawed : (text : Bool) (os bytes : List ℕ) → IsOffsets os → last_of os ≤ length bytes
    → AreItems text (items_of os bytes) → AreItems text (items_of os (take (last_of os) bytes))
kinds-thawed text os bytes legal within all = subst (AreItems text) (sym (piece.items-thawed os bytes legal within)) all

pub kinds-push : (text : Bool) (os bytes new : List ℕ) → IsOffsets os → last_of os ≡ length bytes
    → AreItems text (items_of os bytes) → IsItem text new
    → AreItems text (items_of (os ++ (last_of os + length new) ∷ []) (bytes ++ new))
kinds-push text os bytes new legal ends all one =
    subst (AreItems text) (sym (piece.items-push os bytes new legal ends)) (push-of text (items_of os bytes) new all
    one)

pub kinds-push-empty : (text : Bool) (os bytes : List ℕ) → IsOffsets os → last_of os ≡ length bytes
    → AreItems text (items_of os bytes)
    → AreItems text (items_of (os ++ last_of os ∷ []) bytes)
kinds-push-empty text os bytes legal ends all =
    subst (AreItems text) (sym (piece.items-push-empty os bytes legal ends)) (push-of text (items_of os bytes) []
    all (empty-item text))

pub kinds-short : (text : Bool) (n : ℕ) (os bytes : List ℕ) → IsOffsets os → last_of os ≤ length bytes
    → n < length os → AreItems text (items_of os bytes)
    → AreItems text (items_of (take (n + 1) os) (take (last_of (take (n + 1) os)) bytes))
kinds-short text n os bytes legal within low all =
    subst (AreItems text) (sym (piece.items-short n os bytes legal within low)) (take-of text n (items_of os bytes)
    all)

pub kinds-joined : (text : Bool) (os bytes other obytes : List ℕ) → IsOffsets os → last_of os ≡ length bytes
    → IsOffsets other → last_of other ≤ length obytes
    → AreItems text (items_of os bytes) → AreItems text (items_of other obytes)
    → AreItems text (items_of (os ++ moved_behind (last_of os) other) (bytes ++ slice_range obytes
    (first_of other) (last_of other)))
kinds-joined text os bytes other obytes legal ends added within all more =
    subst (AreItems text) (sym (piece.items-joined os bytes other obytes legal ends added))
    (join-of text (items_of os bytes) (items_of other obytes) all more)

pub ruleset kind_zeros = (no-items, kinds-zeros)

pub ruleset kind_growth = (no-items, kinds-push, kinds-push-empty)

pub ruleset kind_joins = (kinds-joined)
