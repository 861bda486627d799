use Rattle.std.proofs.Common.{◌≡◌, ◌+◌, ◌*◌, ◌/◌, ◌%◌, ◌^◌, ◌<◌, ◌==◌, Some, ap, arith, bit_and, refl, sym, take, w64, ◌∙◌}
use Rattle.std.specs.Int.{trailing_zeros}
use Rattle.std.proofs.lemmas.Nat.Bits.{bit_at-lt, shr_and_one}
use Rattle.arrow_memory.specs.Marks.{bits_of}
use Rattle.arrow_memory.proofs.CallerLemmas.{length-bits}
use Rattle.arrow_bytes.specs.Selection.{where_set}
use Rattle.arrow_kernels.proofs.BitLemmas.{more-bits, more-fits, more-small, slice_get-bits}
use Rattle.arrow_kernels.proofs.ChoiceLemmas.{where-all}
use Rattle.arrow_kernels.proofs.WordLemmas.{behind, left-next, less-left, lowest, lowest-within, no-more}
use Rattle.arrow_kernels.proofs.WordLemmas.{starts-word, word-grown}
use Rattle.arrow_kernels.proofs.filter_marks.filtered_bits.Goals as goal

pub loop-left-init : goal.loop-left-init
loop-left-init c =
    record {
      marked = λ k low up. slice_get-bits c.args.selected 64 k low;
      fits = c.ranges.selected.fits;
      room = omega arith;
      small = omega arith;
      so_far = starts-word (bits_of c.args.selected 64) 0 64 c.args.selected (omega arith) c.ranges.selected.fits
          (λ k low. slice_get-bits c.args.selected 64 k low) (bits_of c.args.marks 64);
    }

pub overflow_add-kept : goal.overflow_add-kept
overflow_add-kept c =
    let left = c.loop-left.left in
    let row = trailing_zeros w64 left in
    let bit = bit_and (c.args.marks / 2 ^ row) 1 in
    let inner = lowest-within 64 left (omega arith) c.loop-left.invariant.fits (omega arith) in
    record {
      fits = more-fits c.loop-left.kept c.loop-left.count bit (c.loop-left.kept + bit * 2 ^ c.loop-left.count
          % 2 ^ 64) c.loop-left.invariant.small (omega (
            arith,
            shr_and_one c.args.marks row,
            bit_at-lt c.args.marks row,
          )) (omega (arith, c.loop-left.invariant.room, inner)) refl;
    }

pub loop-left-preserved : goal.loop-left-preserved
loop-left-preserved c =
    let rows = bits_of c.args.selected 64 in
    let left = c.loop-left.left in
    let kept = c.loop-left.kept in
    let count = c.loop-left.count in
    let i = c.loop-left.invariant in
    let row = trailing_zeros w64 left in
    let bit = bit_and (c.args.marks / 2 ^ row) 1 in
    let inner = lowest-within 64 left (omega arith) i.fits (omega arith) in
    let there : lowest 64 left ≡ row = omega (arith, inner) in
    let single : bit < 2 = omega (arith, shr_and_one c.args.marks row, bit_at-lt c.args.marks row) in
    let new = kept + bit * 2 ^ count % 2 ^ 64 in
    let read = slice_get-bits c.args.marks 64 row inner
    ∙ ap (λ b. Some (b == 1)) (sym (shr_and_one c.args.marks row)) in
    record {
      marked = left-next rows 0 64 left (omega arith) i.fits (omega arith) i.marked;
      fits = omega (arith, i.fits, less-left left (omega arith));
      room = omega (arith, i.room, behind rows 0 64 left (omega arith) i.fits (omega arith) i.marked);
      small = more-small kept count bit new i.small single (omega (arith, i.room, inner)) refl;
      so_far = word-grown rows 0 64 left (omega arith) i.fits (omega arith) i.marked (bits_of c.args.marks 64) _ _ (bit == 1) read
          (i.so_far ∙ ap (λ n. where_set (take (0 + n) rows) (take (0 + n) (bits_of c.args.marks 64))) there)
          (more-bits kept count bit new i.small single (omega (arith, i.room, inner)) refl);
    }

pub loop-left-smaller : goal.loop-left-smaller
loop-left-smaller c = less-left c.loop-left.left (omega arith)

pub returns-clause-bits : goal.returns-clause-bits
returns-clause-bits c =
    let rows = bits_of c.args.selected 64 in
    let marks = bits_of c.args.marks 64 in
    let none : lowest 64 c.loop-left.left ≡ 64 = omega (arith, no-more c.loop-left.left (omega arith)) in
    c.loop-left.invariant.so_far
    ∙ ap (λ n. where_set (take (0 + n) rows) (take (0 + n) marks)) none
    ∙ where-all rows marks 64 (sym (length-bits c.args.selected 64)) (sym (length-bits c.args.marks 64))
