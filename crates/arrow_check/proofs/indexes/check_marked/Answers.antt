use Rattle.std.proofs.Common.{◌≡◌, not, false, length, get_or, Some, refl, sym, ap, ◌∙◌, true≢false, arith}
use Rattle.std.proofs.lemmas.Option.{slice_get-get_or}
use Rattle.arrow_check.specs.Indexes.{valid_keys}
use Rattle.arrow_check.proofs.KeyLemmas.{all-in-bounds, first-found, none-step, none-valid, none-whole}
use Rattle.arrow_check.proofs.indexes.check_marked.Goals as goal
use Rattle.arrow_check.proofs.indexes.check_marked.Goals.{else-not-points_at_item-via-then-not-points_at_item+else-get_bit}
use Rattle.arrow_check.proofs.indexes.check_marked.Goals.{else-not-points_at_item-via-else-not-points_at_item}

pub returns-then-all_point_at_items-clause-first : goal.returns-then-all_point_at_items-clause-first
returns-then-all_point_at_items-clause-first g c =
    rw (none-valid g.K.IndexKey.number c.args.len c.args.keys.now c.args.marks.now
    (c.all_point_at_items.ensures c.if-all_point_at_items.true)) refl

pub returns-then-all_point_at_items-clause-ok : goal.returns-then-all_point_at_items-clause-ok
returns-then-all_point_at_items-clause-ok g c =
    all-in-bounds g.K.IndexKey.number c.args.len (valid_keys c.args.keys.now (Some c.args.marks.now))
    (none-valid g.K.IndexKey.number c.args.len c.args.keys.now c.args.marks.now
    (c.all_point_at_items.ensures c.if-all_point_at_items.true))

pub loop-index-init : goal.loop-index-init
loop-index-init g c = refl

pub returns-then-get_bit-clause-first : goal.returns-then-get_bit-clause-first
returns-then-get_bit-clause-first g c =
    let key = c.index-keys-index.result in
    let index = c.loop-index.index in
    let read = slice_get-get_or c.args.keys.now index key (omega arith) ∙ ap Some (sym c.index-keys-index.is) in
    let set = c.get_bit.ensures ∙ ap Some c.if-get_bit.true in
    rw (first-found g.K.IndexKey.number c.args.len c.args.keys.now c.args.marks.now index key c.loop-index.invariant
    read set
    (ap not (sym c.points_at_item.ensures ∙ c.if-not-points_at_item.true))) c.key_fault.ensures

pub loop-index-preserved : goal.loop-index-preserved
loop-index-preserved g c =
    let keys = c.args.keys.now in
    let marks = c.args.marks.now in
    let key = c.index-keys-index.result in
    let index = c.loop-index.index in
    let read = slice_get-get_or keys index key (omega arith) ∙ ap Some (sym c.index-keys-index.is) in
    elim c.else-not-points_at_item.branch [
      | else-not-points_at_item-via-then-not-points_at_item+else-get_bit w ↦
          none-step g.K.IndexKey.number c.args.len keys marks index key w.get_bit.result c.loop-index.invariant read
          w.get_bit.ensures (λ set.
          absurd (true≢false (sym set ∙ w.if-get_bit.false)))
      | else-not-points_at_item-via-else-not-points_at_item w ↦
          none-step g.K.IndexKey.number c.args.len keys marks index key (get_or marks index false)
          c.loop-index.invariant read
          (slice_get-get_or marks index false (omega (arith, c.requires))) (λ _. ap not (sym c.points_at_item.ensures
          ∙ w.if-not-points_at_item.false))
    ]

pub returns-clause-first : goal.returns-clause-first
returns-clause-first g c =
    let all : c.loop-index.index ≡ length c.args.keys.now =
    omega (arith, c.loop-index-test.false, c.loop-index.auto.index-end) in
    rw (none-whole g.K.IndexKey.number c.args.len c.args.keys.now c.args.marks.now c.loop-index.index all
    c.requires c.loop-index.invariant) refl

pub returns-clause-ok : goal.returns-clause-ok
returns-clause-ok g c =
    let all : c.loop-index.index ≡ length c.args.keys.now =
    omega (arith, c.loop-index-test.false, c.loop-index.auto.index-end) in
    all-in-bounds g.K.IndexKey.number c.args.len (valid_keys c.args.keys.now (Some c.args.marks.now))
    (none-whole g.K.IndexKey.number c.args.len c.args.keys.now c.args.marks.now c.loop-index.index all c.requires
    c.loop-index.invariant)
