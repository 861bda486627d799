use Rattle.std.proofs.Common.{◌≡◌, ℕ, ◌+◌, ◌-◌, ◌≤◌, ◌∙◌, List, Bool, ap, arith, count_by, drop, length, not, sym, take}
use Rattle.arrow_bitmap.specs.Marks.{marks}
use Rattle.arrow_bitmap.proofs.MarkLemmas.{clear_three, length-marks, marks-cut}
use Rattle.arrow_bitmap.proofs.marks.Marks.clear_in_range.Goals as goal

-- the marks of bytes from one on, of which some are a part
module _ (xs : List Bool) (bytes : List ℕ) (p n a m : ℕ) (is : marks bytes p n ≡ xs) (within : a + m ≤ length xs) where
  inner : a + m ≤ n
  inner = omega (arith, within, ap length is, length-marks bytes p n)

  clear-part : count_by not (marks bytes (p + a) (p + a + m - (p + a))) ≡ count_by not (take m (drop a xs))
  clear-part =
      let count : p + a + m - (p + a) ≡ m = omega arith in
      ap (λ k. count_by not (marks bytes (p + a) k)) count ∙ ap (count_by not) (sym (marks-cut bytes p n a m inner))
      ∙ ap (λ ys. count_by not (take m (drop a ys))) is

  clear-parts : count_by not (marks bytes p (p + a - p)) + count_by not (take m (drop a xs)) + count_by not
      (marks bytes (p + a + m) (p + n - (p + a + m))) ≡ count_by not xs
  clear-parts =
      let count : p + n - p ≡ n = omega arith in
      ap (λ k. count_by not (marks bytes p (p + a - p)) + k + count_by not
      (marks bytes (p + a + m) (p + n - (p + a + m)))) (sym clear-part)
      ∙ clear_three bytes p (p + a) (p + a + m) (p + n) (omega arith) (omega arith) (omega (arith, inner))
      ∙ ap (λ k. count_by not (marks bytes p k)) count ∙ ap (count_by not) is

pub returns-then-len-self : goal.returns-then-len-self
returns-then-len-self c = omega (
  arith,
  clear-part c.args.self.now c.self.inside.bytes.now c.self.inside.start c.self.inside.count c.args.first c.args.len
      c.self.view_is c.requires.within,
)

pub overflow_sub-result : goal.overflow_sub-result
overflow_sub-result c = omega (
  arith,
  clear-parts c.args.self.now c.self.inside.bytes.now c.self.inside.start c.self.inside.count c.args.first c.args.len
      c.self.view_is c.requires.within,
)

pub overflow_sub-result-2 : goal.overflow_sub-result-2
overflow_sub-result-2 c = omega (
  arith,
  clear-parts c.args.self.now c.self.inside.bytes.now c.self.inside.start c.self.inside.count c.args.first c.args.len
      c.self.view_is c.requires.within,
)

pub returns : goal.returns
returns c = omega (
  arith,
  clear-parts c.args.self.now c.self.inside.bytes.now c.self.inside.start c.self.inside.count c.args.first c.args.len
      c.self.view_is c.requires.within,
)
