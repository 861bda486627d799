use Rattle.std.proofs.Common.{◌≡◌, ◌∙◌, ap, arith, drop, length, slice_get, subst}
use Rattle.std.proofs.lemmas.List.{take_at}
use Rattle.std.proofs.lemmas.Result.{MatchResult-weaker}
use Rattle.compute_aggregate.specs.Groups.{group_values}
use Rattle.compute_aggregate.specs.GroupSums.{SlotsRefused}
use Rattle.compute_aggregate.proofs.GroupSumLemmas.{both_ok, refused, split_shown}
use Rattle.compute_aggregate.proofs.aggregate.group_sums.split_slots.Goals as goal

pub returns-clause-ok : goal.returns-clause-ok
returns-clause-ok g c =
    let shown = g.S.NativeArithmetics.number in
    let number = g.T.NativeArithmetics.number in
    let long : length c.sum_rows.new.sums ≡ c.resize.new.self.len = omega arith in
    let same = c.as_slice.ensures.value ∙ take_at c.sum_rows.new.sums (drop (length c.sum_rows.new.sums) c.resize.new.self.items)
    c.resize.new.self.len long in
    let all : c.resize.new.self.len ≡ c.args.groups = c.in_ok-resize.ensures.len in
    both_ok c.sum_slots-slots.result c.sum_slots-slots.ensures.count c.sum_slots-slots.ensures.ok
    (λ slots count slot_of. split_shown shown number c.args.groups (length c.args.indices.now)
    (group_values c.args.array.now c.args.indices.now) c.sum_rows.new.sums slots.items (count ∙ ap length same) (long ∙ all)
    (λ k low. c.sum_rows.ensures k (omega arith))
    (λ k slot sum at own. slot_of k slot sum at (ap (λ xs. slice_get xs k) same ∙ own)))

pub returns-clause-err : goal.returns-clause-err
returns-clause-err g c =
    let number = g.T.NativeArithmetics.number in
    let long : length c.sum_rows.new.sums ≡ c.resize.new.self.len = omega arith in
    let same = c.as_slice.ensures.value ∙ take_at c.sum_rows.new.sums (drop (length c.sum_rows.new.sums) c.resize.new.self.items)
    c.resize.new.self.len long in
    let all : c.resize.new.self.len ≡ c.args.groups = c.in_ok-resize.ensures.len in
    MatchResult-weaker c.sum_slots-slots.result c.sum_slots-slots.ensures.err (λ _ t. t)
    (λ e why. refused number g.S.NativeArithmetics.fits c.args.groups (length c.args.indices.now)
    (group_values c.args.array.now c.args.indices.now) c.sum_rows.new.sums e (long ∙ all)
    (λ k low. c.sum_rows.ensures k (omega arith))
    (subst (λ sums. SlotsRefused g.S.NativeArithmetics.fits sums e) same why))
