-- Lemmas about a cut of items behind others.
use Rattle.std.proofs.Common.{◌≡◌, ℕ, ◌+◌, ◌-◌, ◌<◌, ◌≤◌, Bool, List, ◌++◌, length, take, drop, sym, ap, ap₂, ◌∙◌, arith}
use Rattle.std.specs.Prelude.{Err, IfErr, Ok, OnErr, OnOk, Result, slice_range}
use Rattle.std.specs.List.{concat}
use Rattle.std.proofs.lemmas.Bool.{le-ltb, lt-ltb}
use Rattle.arrow_types.specs.declared.error.Error.{Error}
use Rattle.arrow_types.specs.declared.error.Error.TheVariants as error
use Rattle.arrow_memory.specs.Offsets.{AppendsOffsets, EndRefused, IsOffsets, first_of, joined_end, last_of}
use Rattle.arrow_memory.specs.Offsets.{moved_behind}
use Rattle.arrow_memory.proofs.CallerLemmas.{legal-piece}
use Rattle.arrow_check.specs.Pieces.{items_of, lead_of}
use Rattle.arrow_column.specs.Column.{refused_growth}
use Rattle.arrow_bytes.specs.Appends.{AppendKeepsItems, AppendsItems}
use Rattle.arrow_bytes.specs.Kinds.{AreItems}
use Rattle.arrow_bytes.specs.Pieces.{append_items, around_of, pieces_of}
use Rattle.arrow_bytes.proofs.KindLemmas.{kinds-cut, kinds-joined}
use Rattle.arrow_bytes.proofs.PieceLemmas.{around-joined, end-items, ends-joined, items-cut, items-joined}
use Rattle.arrow_bytes.proofs.PieceLemmas.{last-window, window-long}

-- the n items from place a on, between other offsets of other bytes
module _ (os bytes other obytes : List ℕ) (a n : ℕ) (legal : IsOffsets os) (ends : last_of os ≡ length bytes)
    (others : IsOffsets other) (within : last_of other ≤ length obytes) (inside : a + n < length other) where
  added : IsOffsets (take (n + 1) (drop a other))
  added = legal-piece other a (n + 1) others (omega arith) (omega (arith, inside))

  held : last_of (take (n + 1) (drop a other)) ≤ length obytes
  held = omega (arith, within, last-window a n other others inside)

  items-added : items_of (os ++ moved_behind (last_of os) (take (n + 1) (drop a other)))
      (bytes ++ slice_range obytes (first_of (take (n + 1) (drop a other))) (last_of (take (n + 1) (drop a other))))
      ≡ items_of os bytes ++ take n (drop a (items_of other obytes))
  items-added = items-joined os bytes (take (n + 1) (drop a other)) obytes legal ends added
      ∙ ap (λ more. items_of os bytes ++ more) (items-cut a n other obytes)

  pub ends-added : last_of (os ++ moved_behind (last_of os) (take (n + 1) (drop a other)))
      ≡ length (bytes ++ slice_range obytes (first_of (take (n + 1) (drop a other)))
      (last_of (take (n + 1) (drop a other))))
  ends-added = ends-joined os bytes (take (n + 1) (drop a other)) obytes legal ends added held

  around-added : around_of (os ++ moved_behind (last_of os) (take (n + 1) (drop a other)))
      (bytes ++ slice_range obytes (first_of (take (n + 1) (drop a other))) (last_of (take (n + 1) (drop a other))))
      ≡ around_of os bytes
  around-added = around-joined os bytes (take (n + 1) (drop a other)) obytes legal ends added held

  pub kinds-added : (text : Bool) → AreItems text (items_of os bytes) → AreItems text (items_of other obytes)
      → AreItems text (items_of (os ++ moved_behind (last_of os) (take (n + 1) (drop a other)))
      (bytes ++ slice_range obytes (first_of (take (n + 1) (drop a other))) (last_of (take (n + 1) (drop a other)))))
  kinds-added text all more = kinds-joined text os bytes (take (n + 1) (drop a other)) obytes legal ends added held all
      (kinds-cut text a n other obytes more)

  added-long : length (concat (take n (drop a (items_of other obytes))))
      ≡ last_of (take (n + 1) (drop a other)) - first_of (take (n + 1) (drop a other))
  added-long = ap (λ items. length (concat items)) (sym (items-cut a n other obytes))
      ∙ window-long (take (n + 1) (drop a other)) obytes added held

  -- the pieces are then those of more items, and end where these end
  pieces-added : pieces_of (os ++ moved_behind (last_of os) (take (n + 1) (drop a other)))
      (bytes ++ slice_range obytes (first_of (take (n + 1) (drop a other))) (last_of (take (n + 1) (drop a other))))
      ≡ append_items (pieces_of os bytes) (take n (drop a (items_of other obytes)))
  pieces-added k = record { around = around-added k; items = items-added k }

  end-added : length (lead_of os bytes) + length (concat (items_of os bytes))
      + length (concat (take n (drop a (items_of other obytes))))
      ≡ last_of os + (last_of (take (n + 1) (drop a other)) - first_of (take (n + 1) (drop a other)))
  end-added = omega (arith, end-items os bytes legal (omega (arith, ends)), added-long)

  -- how a growth of offsets and bytes ends is how one of the items does
  module _ {R : Type 0} (most : ℕ) (new longer : List ℕ) where
    pub added-ok : (result : Result R Error)
        → OnOk result (AppendsOffsets most os (take (n + 1) (drop a other)) new)
        → OnOk result (longer ≡ bytes ++ slice_range obytes (first_of (take (n + 1) (drop a other)))
        (last_of (take (n + 1) (drop a other))))
        → AppendsItems result most (pieces_of os bytes) (take n (drop a (items_of other obytes))) (pieces_of new longer)
    added-ok (Ok _) grown copied = (
      le-ltb most _ (omega (arith, grown.0, end-added)),
      ap₂ pieces_of grown.1 copied ∙ pieces-added,
    )
    added-ok (Err _) grown copied = tt

    pub added-err : (result : Result R Error)
        → IfErr result (λ e. EndRefused e most (joined_end os (take (n + 1) (drop a other))))
        → OnErr result ((new ≡ os) × (longer ≡ bytes))
        → AppendKeepsItems result most (pieces_of os bytes) (take n (drop a (items_of other obytes)))
        (pieces_of new longer)
    added-err (Ok _) refused kept = tt
    added-err (Err (error.OutOfSpec text)) refused kept = absurd refused
    added-err (Err error.Overflow) refused kept = (
      sym (ap refused_growth (lt-ltb most _ (omega (arith, refused, end-added)))),
      ap₂ pieces_of kept.0 kept.1,
    )
    added-err (Err error.OutOfMemory) refused kept = (
      sym (ap refused_growth (le-ltb most _ (omega (arith, refused, end-added)))),
      ap₂ pieces_of kept.0 kept.1,
    )
