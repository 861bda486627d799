-- Held masks that are changed, seen over what slots store.
use Rattle.std.proofs.Common.{◌≡◌, ◌∙◌, Bool, true, List, length, None, Some, IfSome, MatchOption, if◌then◌else◌, sym}
use Rattle.std.proofs.Common.{ap}
use Rattle.std.proofs.lemmas.List.{length-map}
use Rattle.arrow_column.specs.Column.{ColumnWith, marks_of, mask_of, with_mask}
use Rattle.arrow_bytes.specs.Pieces.{Around}
use Rattle.arrow_entry.specs.Entry.{erase_type}
use Rattle.arrow_model.specs.Item.{Stored}
use Rattle.arrow_entry.proofs.CallerLemmas.{held-seen, length-seen, mask-seen}

module _ {A S T : Type 0} (around : A → Around) (stored : S
    → Stored T) (c : ColumnWith A S) (held : (erase_type around stored c).held ≡ true) (marks : List Bool)
    (post : List Bool → List Bool → Type 0) where
  -- the mask that is held is the marks
  held-mask : mask_of c ≡ Some (marks_of c)
  held-mask = ap (λ (b : Bool). if b then Some (marks_of c) else None) (sym (held-seen around stored c) ∙ held)

  -- what makes as many other marks keeps their number
  pub keeps : length marks ≡ length (erase_type around stored c).rows
      → ((old changed : List Bool) → post old changed → changed ≡ marks)
      → IfSome (mask_of c) (λ old. (changed : List Bool) → post old changed → length changed ≡ length old)
  keeps fits makes = rw held-mask (λ changed made. ap length (makes (marks_of c) changed made) ∙ fits
      ∙ length-seen around stored c ∙ sym (length-map c.rows _))

  -- these are then the marks
  pub changes : (new : ColumnWith A S) → ((old changed : List Bool) → post old changed → changed ≡ marks)
      → MatchOption (mask_of c) (new ≡ c) (λ old. (changed : List Bool) × post old changed
      × (length changed ≡ length old) × (new ≡ with_mask c (Some changed)))
      → erase_type around stored new ≡ with_mask (erase_type around stored c) (Some marks)
  changes new makes did =
      let done : (changed : List Bool) × post (marks_of c) changed × (length changed ≡ length (marks_of c))
      × (new ≡ with_mask c (Some changed)) = rw held-mask at did in
      ap (erase_type around stored) (done.3
      ∙ ap (λ changed. with_mask c (Some changed)) (makes (marks_of c) done.0 done.1))
      ∙ mask-seen around stored c (Some marks)
