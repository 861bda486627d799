use Rattle.std.proofs.Common.{◌≡◌, ◌∙◌, ap, arith, drop, length, refl, slice_get, subst}
use Rattle.std.proofs.lemmas.List.{take_at}
use Rattle.std.proofs.lemmas.Result.{MatchResult-weaker}
use Rattle.compute_aggregate.specs.GroupSums.{WholeRefused}
use Rattle.compute_aggregate.proofs.GroupSumLemmas.{both_ok, whole_refused, whole_shown}
use Rattle.compute_aggregate.proofs.aggregate.group_sums.group_slots.Goals as goal

pub returns-clause-ok : goal.returns-clause-ok
returns-clause-ok g c =
    let shown = g.S.NativeArithmetics.number in
    let number = g.T.NativeArithmetics.number in
    let sums = c.whole_sums-is_whole.new.sums in
    let long : length c.whole_sums-is_whole.new.sums ≡ c.resize.new.self.len = omega arith in
    let same = c.as_slice.ensures.value ∙ take_at sums (drop (length sums) c.resize.new.self.items) c.resize.new.self.len long in
    both_ok c.whole_slots-slots.result c.whole_slots-slots.ensures.count c.whole_slots-slots.ensures.ok
    (λ slots count slot_of. whole_shown shown number c.args.array.now c.args.indices.now sums slots.items (count
    ∙ ap length same)
    c.requires.rows (c.if-not-is_whole.ensures refl)
    (λ k slot sum at own. slot_of k slot sum at (ap (λ xs. slice_get xs k) same ∙ own)))

pub returns-clause-err : goal.returns-clause-err
returns-clause-err g c =
    let number = g.T.NativeArithmetics.number in
    let sums = c.whole_sums-is_whole.new.sums in
    let long : length c.whole_sums-is_whole.new.sums ≡ c.resize.new.self.len = omega arith in
    let same = c.as_slice.ensures.value ∙ take_at sums (drop (length sums) c.resize.new.self.items) c.resize.new.self.len long in
    let all : c.resize.new.self.len ≡ c.args.groups = c.in_ok-resize.ensures.len in
    MatchResult-weaker c.whole_slots-slots.result c.whole_slots-slots.ensures.err (λ _ t. t)
    (λ e why. whole_refused number g.S.NativeArithmetics.fits c.args.groups c.args.array.now
    c.args.indices.now sums e (long ∙ all)
    c.requires.rows (c.if-not-is_whole.ensures refl)
    (subst (λ sums. WholeRefused g.S.NativeArithmetics.fits sums e) same why))
