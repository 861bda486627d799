use Rattle.std.proofs.Common.{◌≡◌, ◌+◌, ◌-◌, ◌*◌, length, count_by, not, ap, ap₂, ◌∙◌, arith}
use Rattle.arrow_bitmap.specs.Marks.{marks}
use Rattle.arrow_bitmap.proofs.MarkLemmas.{clear-le, clear_on, clear_step-word, range-set}
use Rattle.arrow_bitmap.proofs.bits.count_clear_words.Goals as goal

pub loop-index-init : goal.loop-index-init
loop-index-init c = omega (arith, clear-le c.args.bytes.now (8 * c.args.first) (64 * 0))

pub overflow_add-set : goal.overflow_add-set
overflow_add-set c =
    let bytes = c.args.bytes.now in
    let word = range-set bytes c.as_chunks.result.0.now c.args.first c.args.past c.loop-index.index
    c.count_set_word-set.result c.as_chunks.ensures.front c.as_chunks.ensures.front_len c.loop-index-test.true
    (λ i. (c.type_inv.bytes i).fits) c.count_set_word-set.ensures in
    omega (arith, c.loop-index.invariant, word, c.as_chunks.ensures.front_len, c.loop-index-test.true)

pub loop-index-preserved : goal.loop-index-preserved
loop-index-preserved c =
    let bytes = c.args.bytes.now in
    let word = range-set bytes c.as_chunks.result.0.now c.args.first c.args.past c.loop-index.index
    c.count_set_word-set.result c.as_chunks.ensures.front c.as_chunks.ensures.front_len c.loop-index-test.true
    (λ i. (c.type_inv.bytes i).fits) c.count_set_word-set.ensures in
    omega (arith, c.loop-index.invariant, word, clear_step-word bytes c.args.first c.loop-index.index)

pub overflow_add-result : goal.overflow_add-result
overflow_add-result c =
    let at = c.args.past - length c.as_chunks.result.1.now in
    omega (
      arith,
      c.as_chunks.ensures.front_len,
      c.as_chunks.ensures.back_len,
      c.count_clear_bytes.ensures,
      clear-le c.args.bytes.now (8 * at) (8 * (c.args.past - at)),
    )

pub returns : goal.returns
returns c =
    let bytes = c.args.bytes.now in
    let first = c.args.first in
    let past = c.args.past in
    let i = c.loop-index.index in
    let at = past - length c.as_chunks.result.1.now in
    let front : 64 * i ≡ 8 * at - 8 * first = omega (
      arith,
      c.loop-index-test.false,
      c.loop-index.auto.index-end,
      c.as_chunks.ensures.front_len,
      c.as_chunks.ensures.back_len,
    ) in
    let back : 8 * (past - at) ≡ 8 * past - 8 * at = omega arith in
    let whole : 8 * past - 8 * first ≡ 8 * (past - first) = omega arith in
    let clear : 64 * length c.as_chunks.result.0.now - c.loop-index.set
    ≡ count_by not (marks bytes (8 * first) (64 * i)) = omega (
      arith,
      c.loop-index.invariant,
      c.loop-index-test.false,
      c.loop-index.auto.index-end,
    ) in
    ap₂ ◌+◌ (clear ∙ ap (λ n. count_by not (marks bytes (8 * first) n)) front) (c.count_clear_bytes.ensures
    ∙ ap (λ n. count_by not (marks bytes (8 * at) n)) back)
    ∙ clear_on bytes (8 * first) (8 * at) (8 * past) (omega (arith, c.as_chunks.ensures.back_len)) (omega arith)
    ∙ ap (λ n. count_by not (marks bytes (8 * first) n)) whole
