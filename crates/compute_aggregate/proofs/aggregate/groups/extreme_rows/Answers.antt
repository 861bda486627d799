use Rattle.std.proofs.Common.{◌≡◌, ◌<◌, ◌+◌, ◌*◌, ◌∙◌, None, Some, ap, arith, fold, refl, get_or, length, min, option_map, slice_get, subst, sym, take}
use Rattle.std.specs.List.{zip}
use Rattle.std.proofs.lemmas.List.{length-map, map-set, take_all, take_min}
use Rattle.std.proofs.lemmas.Option.{slice_get-get_or, slice_get-map, slice_get_read}
use Rattle.std.proofs.lemmas.Slice.Zip.{length-zip}
use Rattle.arrow_types.proofs.CallerLemmas.{get-zip}
use Rattle.arrow_memory.specs.Rows.{slot}
use Rattle.arrow_column.specs.Column.{slots_of}
use Rattle.arrow_column.proofs.CallerLemmas.{slot-at}
use Rattle.compute_aggregate.specs.Groups.{StatesOf, as_seen, extreme_step, values_at}
use Rattle.compute_aggregate.proofs.GroupLemmas.{row_more}
use Rattle.compute_aggregate.proofs.aggregate.groups.extreme_rows.Goals as goal

pub loop-i-init : goal.loop-i-init
loop-i-init g c = λ k low.
    let seen = g.A.BorrowSlots.seen in
    slice_get-map (option_map seen) c.args.best.now k ∙ ap (option_map (option_map seen)) (c.requires.none k low)

pub loop-k-init : goal.loop-k-init
loop-k-init g c =
    let pairs = zip c.args.indices.now (slots_of (g.A.Array.column c.args.array.now)) in
    let same : 64 * c.loop-i.i ≡ 64 * c.loop-i.i + 0 = omega arith in
    subst (λ n. StatesOf (extreme_step c.args.extreme g.A.OrderSlots.order) None (take n pairs) (length c.args.best.now)
    (as_seen g.A.BorrowSlots.seen c.loop-i.best)) same c.loop-i.invariant

pub loop-k-preserved : goal.loop-k-preserved
loop-k-preserved g c = λ k low.
    let seen = g.A.BorrowSlots.seen in
    let column = g.A.Array.column c.args.array.now in
    let row = 64 * c.loop-i.i + c.loop-k.k in
    let index = get_or c.args.indices.now row 0 in
    let value = seen c.stored_value-value.result in
    let current = c.index-best-group.result in
    let mark = c.is_set.result in
    let inside : 64 * c.loop-i.i + c.loop-k.k < length c.args.indices.now = omega (arith, c.loop-k-test.true) in
    let one_more : 64 * c.loop-i.i + c.loop-k.k + 1 ≡ 64 * c.loop-i.i + (c.loop-k.k + 1) = omega arith in
    let within = c.requires.within row 0 inside in
    let at = slice_get-get_or c.args.indices.now row 0 inside in
    let own = slot-at column.rows row value mark
    (ap (λ xs. slice_get xs row) (sym c.stored_values-values.ensures) ∙ c.stored_value-value.ensures)
    (c.marks_word-word.ensures c.loop-k.k c.loop-k-test.true ∙ ap Some (sym c.is_set.ensures)) in
    let state = slice_get_read c.loop-k.best (length c.loop-k.best) index current refl
    (omega (arith, within, c.loop-k.auto.best)) c.index-best-group.is in
    let seen_state = slice_get-map (option_map seen) c.loop-k.best index ∙ ap (option_map (option_map seen)) state in
    ap (λ states. slice_get states k) (map-set (option_map seen) c.loop-k.best index c.kept_value.result)
    ∙ row_more (extreme_step c.args.extreme g.A.OrderSlots.order) (as_seen seen c.loop-k.best)
    (zip c.args.indices.now (slots_of column)) row index k (slot (value, mark)) (option_map seen current)
    (option_map seen c.kept_value.result) None
    (get-zip c.args.indices.now (slots_of column) row index (slot (value, mark)) at own)
    seen_state c.kept_value.ensures (c.loop-k.invariant k low)
    ∙ ap (λ n. Some (fold (extreme_step c.args.extreme g.A.OrderSlots.order) None
    (values_at (take n (zip c.args.indices.now (slots_of column))) k))) one_more

pub loop-i-preserved : goal.loop-i-preserved
loop-i-preserved g c =
    let column = g.A.Array.column c.args.array.now in
    let pairs = zip c.args.indices.now (slots_of column) in
    let same : 64 * c.loop-i.i + c.loop-k.k ≡ min (64 * (c.loop-i.i + 1)) (length pairs) =
    omega (arith, length-zip c.args.indices.now (slots_of column), length-map column.rows slot) in
    subst (λ ps. StatesOf (extreme_step c.args.extreme g.A.OrderSlots.order) None ps (length c.args.best.now)
    (as_seen g.A.BorrowSlots.seen c.loop-k.best))
    (ap (λ n. take n pairs) same ∙ take_min (64 * (c.loop-i.i + 1)) pairs) c.loop-k.invariant

pub returns : goal.returns
returns g c = λ k low.
    let column = g.A.Array.column c.args.array.now in
    let pairs = zip c.args.indices.now (slots_of column) in
    let all : take (64 * c.loop-i.i) pairs ≡ pairs = take_all (64 * c.loop-i.i) pairs
    (omega (arith, length-zip c.args.indices.now (slots_of column), length-map column.rows slot)) in
    subst (λ ps. slice_get (as_seen g.A.BorrowSlots.seen c.loop-i.best) k
    ≡ Some (fold (extreme_step c.args.extreme g.A.OrderSlots.order) None (values_at ps k))) all
    (c.loop-i.invariant k low)
