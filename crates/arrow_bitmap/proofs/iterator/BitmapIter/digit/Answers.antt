use Rattle.std.proofs.Common.{◌≡◌, ℕ, ◌+◌, ◌-◌, ◌<◌, ◌≤◌, Bool, true, false, List, [], ◌∷◌, length, slice_get}
use Rattle.std.proofs.Common.{Some, None, Option, ap, sym, ◌∙◌, arith}
use Rattle.std.proofs.lemmas.Option.{slice_get_past}
use Rattle.arrow_bitmap.specs.Marks.{mark_at, marks}
use Rattle.arrow_bitmap.specs.MarkText.{mark_digit}
use Rattle.arrow_bitmap.proofs.MarkLemmas.{length-marks, slice_get-marks}
use Rattle.arrow_bitmap.proofs.iterator.BitmapIter.digit.Goals as goal

-- a digit, from what there is at a place
digit-of : (bytes : List ℕ) (p n i : ℕ) (ms : List Bool) (b : Bool) → marks bytes p n ≡ ms → i < n
    → mark_at bytes (p + i) ≡ b → slice_get ms i ≡ Some b
digit-of bytes p n i ms b is low mark =
    ap (λ xs. slice_get xs i) (sym is) ∙ slice_get-marks bytes p n i low ∙ ap (λ m. Some m) mark

past-marks : (bytes : List ℕ) (p n i : ℕ) (ms : List Bool) → marks bytes p n ≡ ms → n ≤ i → slice_get ms i ≡ None
past-marks bytes p n i ms is past =
    slice_get_past ms i (omega (arith, past, ap length is, length-marks bytes p n))

long-marks : (bytes : List ℕ) (p n : ℕ) (ms : List Bool) → marks bytes p n ≡ ms → length ms ≡ n
long-marks bytes p n ms is = ap length (sym is) ∙ length-marks bytes p n

shows : (o p : Option Bool) → o ≡ p → ◌≡◌ {A = List ℕ} (mark_digit p ∷ []) (mark_digit o ∷ [])
shows o p e = ap (λ x. mark_digit x ∷ []) (sym e)

pub overflow_mul-i : goal.overflow_mul-i
overflow_mul-i c =
    let self = c.self.inside in
    let long = long-marks self.bytes.now self.index (self.end - self.index) c.args.self.now c.self.view_is in
    omega (arith, long, c.requires.byte, c.self.ranges.1.1.0.1)

pub overflow_add-i : goal.overflow_add-i
overflow_add-i c =
    let self = c.self.inside in
    let long = long-marks self.bytes.now self.index (self.end - self.index) c.args.self.now c.self.view_is in
    omega (arith, long, c.requires.byte, c.self.ranges.1.1.0.1)

pub returns-then-i-count : goal.returns-then-i-count
returns-then-i-count c =
    let self = c.self.inside in
    shows _ _ (past-marks self.bytes.now self.index (self.end - self.index) _ c.args.self.now c.self.view_is
    c.if-i-count.true)

pub returns-then-mark_of : goal.returns-then-mark_of
returns-then-mark_of c =
    let self = c.self.inside in
    shows _ _ (digit-of self.bytes.now self.index (self.end - self.index) _ c.args.self.now true c.self.view_is
    c.if-i-count.false (sym c.mark_of.ensures ∙ c.if-mark_of.true))

pub returns-else-mark_of : goal.returns-else-mark_of
returns-else-mark_of c =
    let self = c.self.inside in
    shows _ _ (digit-of self.bytes.now self.index (self.end - self.index) _ c.args.self.now false c.self.view_is
    c.if-i-count.false (sym c.mark_of.ensures ∙ c.if-mark_of.false))
