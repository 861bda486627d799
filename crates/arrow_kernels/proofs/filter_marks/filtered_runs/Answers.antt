use Rattle.std.proofs.Common.{◌≡◌, ◌+◌, ◌-◌, ◌*◌, ◌/◌, ◌%◌, ◌^◌, ◌<◌, ◌≤◌, ◌++◌, bit_and, take, ap, arith}
use Rattle.std.proofs.Common.{refl, sym, ◌∙◌}
use Rattle.arrow_memory.specs.Marks.{bits_of}
use Rattle.arrow_memory.proofs.CallerLemmas.{length-bits}
use Rattle.arrow_bytes.specs.Selection.{where_set}
use Rattle.arrow_kernels.proofs.BitLemmas.{slice_get-bits}
use Rattle.arrow_kernels.proofs.ChoiceLemmas.{where-all}
use Rattle.arrow_kernels.proofs.RunLemmas.{run-bits, run-cut, run-fits, run-low, run-next, run-small, run-starts}
use Rattle.arrow_kernels.proofs.filter_marks.filtered_runs.Goals as goal

pub loop-first-init : goal.loop-first-init
loop-first-init c =
    let rows = bits_of c.args.selected 64 in
    let marks = bits_of c.args.marks 64 in
    let next = c.next_set-first.ensures in
    record {
      high = next.high;
      set = next.set;
      room = omega arith;
      small = omega arith;
      so_far = run-starts rows marks 0 c.args.selected (length-bits c.args.selected 64
          ∙ sym (length-bits c.args.marks 64)) (omega (arith, length-bits c.args.selected 64)) (λ k low.
          slice_get-bits c.args.selected 64 k low) c.next_set-first.result next.high next.clear;
    }

pub overflow_add-kept : goal.overflow_add-kept
overflow_add-kept c =
    let i = c.loop-first.invariant in
    let first = c.loop-first.first in
    let end = c.run_end-end.result in
    let more = c.run_end-end.ensures in
    let run = bit_and (c.args.marks / 2 ^ first) (18446744073709551615 / 2 ^ (64 - (end - first))) in
    let low = run-low c.args.marks first (end - first) run (omega (arith, more.more)) (omega (
      arith,
      more.more,
      more.high,
    )) refl in
    record {
      fits = run-fits c.loop-first.kept c.loop-first.count run (end - first)
          (c.loop-first.kept + run * 2 ^ c.loop-first.count % 2 ^ 64) i.small low (omega (
            arith,
            i.room,
            more.more,
            more.high,
          )) refl;
    }

pub loop-first-preserved : goal.loop-first-preserved
loop-first-preserved c =
    let rows = bits_of c.args.selected 64 in
    let marks = bits_of c.args.marks 64 in
    let i = c.loop-first.invariant in
    let kept = c.loop-first.kept in
    let count = c.loop-first.count in
    let first = c.loop-first.first in
    let end = c.run_end-end.result in
    let more = c.run_end-end.ensures in
    let next = c.next_set-first-in-loop-first.ensures in
    let n = end - first in
    let some : 0 < end - first = omega (arith, more.more) in
    let inner : first + (end - first) ≤ 64 = omega (arith, more.more, more.high) in
    let there : end ≡ first + (end - first) = omega (arith, more.more) in
    let run = bit_and (c.args.marks / 2 ^ first) (18446744073709551615 / 2 ^ (64 - (end - first))) in
    let new = kept + run * 2 ^ count % 2 ^ 64 in
    let low = run-low c.args.marks first n run some inner refl in
    let room : count + (end - first) ≤ 64 = omega (arith, i.room, more.more, more.high) in
    record {
      high = next.high;
      set = next.set;
      room = omega (arith, i.room, more.more, next.low);
      small = run-small kept count run n new i.small low room refl;
      so_far =
          run-bits kept count run n new i.small low room refl
          ∙ ap (λ xs. xs ++ bits_of run n) i.so_far
          ∙ run-next rows marks 0 c.args.selected (length-bits c.args.selected 64 ∙ sym (length-bits c.args.marks 64))
          (omega (arith, length-bits c.args.selected 64)) (λ k lower. slice_get-bits c.args.selected 64 k lower) first
          end c.next_set-first-in-loop-first.result (bits_of run n)
          more.more next.low next.high more.set next.clear (run-cut c.args.marks first n run some inner refl end
          there) (length-bits run n);
    }

pub returns-clause-bits : goal.returns-clause-bits
returns-clause-bits c =
    let rows = bits_of c.args.selected 64 in
    let marks = bits_of c.args.marks 64 in
    let all : c.loop-first.first ≡ 64 = omega (arith, c.loop-first.invariant.high) in
    c.loop-first.invariant.so_far
    ∙ ap (λ n. where_set (take (0 + n) rows) (take (0 + n) marks)) all
    ∙ where-all rows marks 64 (sym (length-bits c.args.selected 64)) (sym (length-bits c.args.marks 64))
