use Rattle.std.proofs.Common.{◌≡◌, ℕ, ◌+◌, ◌-◌, ◌*◌, ◌%◌, ◌/◌, ◌^◌, ◌++◌, ◌==◌, ◌<◌, ◌∙◌, ap, arith, false, get_or, length}
use Rattle.std.proofs.Common.{sym, w64}
use Rattle.std.specs.Int.{bit_at, to_le_bytes}
use Rattle.std.proofs.lemmas.List.FromFn.{length-map-range_with_len}
use Rattle.arrow_bitmap.specs.Marks.{bits_of, mark_at, marks}
use Rattle.arrow_bitmap.specs.MarkWrites.{KeepsMarks}
use Rattle.arrow_bitmap.proofs.AppendLemmas.{extended-marks, same-first}
use Rattle.arrow_bitmap.proofs.ByteWords.{get_or-bits, word-behind}
use Rattle.arrow_bitmap.proofs.CopyLemmas.{cut-marks, low_bit}
use Rattle.arrow_bitmap.proofs.MarkLemmas.{mark_at-append}
use Rattle.arrow_bitmap.proofs.words.extend_from_word.Goals as goal

pub returns-clause-ok : goal.returns-clause-ok
returns-clause-ok c =
    let old = c.args.bytes.now.items in
    let joined = c.join_byte.new.bytes in
    let grown = c.extend_from_slice.new.self.items in
    let new = c.truncate.new.self.items in
    let word = c.args.word in
    let len = c.args.len in
    let count = c.args.count in
    let head = (8 - len % 8) % 8 in
    let bits = bits_of word count in
    let long : length bits ≡ count = length-map-range_with_len (λ k. bit_at word k == 1) 0 count in
    let whole : 8 * length joined.items ≡ len + head = omega (arith, joined.ok.0, c.join_byte.ensures.len) in
    let appended : grown ≡ joined.items ++ to_le_bytes w64 (word / 2 ^ head) =
    c.in_ok-extend_from_slice.ensures.items ∙ ap (λ more. joined.items ++ more) c.to_le_bytes-rest.ensures in
    let kept : KeepsMarks joined.items grown = λ i low. ap (λ xs. mark_at xs i) appended
    ∙ mark_at-append joined.items (to_le_bytes w64 (word / 2 ^ head)) i low in
    let put : (k : ℕ) → k < head → k < length bits → mark_at joined.items (len + k) ≡ get_or bits k false = λ k here low.
    c.join_byte.ensures.put k (omega (arith, here)) ∙ ap (λ b. b == 1) (low_bit 8 word k (omega (arith, here)))
    ∙ sym (get_or-bits word count k (omega (arith, low, long))) in
    let added : (j : ℕ) → head + j < length bits
    → mark_at grown (8 * length joined.items + j) ≡ get_or bits (head + j) false = λ j low.
    word-behind joined.items grown word head j c.ranges.word.fits appended
    (omega (arith, low, long, c.requires.count))
    ∙ sym (get_or-bits word count (head + j) (omega (arith, low, long))) in
    same-first new grown (len + count) (cut-marks grown new (len + count) (λ k low.
    c.truncate.ensures.by_index k 0 (omega (arith, low))))
    ∙ ap (marks grown 0) (ap (λ n. len + n) (sym long))
    ∙ extended-marks old joined.items len head bits whole c.join_byte.ensures.kept put grown kept added

pub returns-clause-kept : goal.returns-clause-kept
returns-clause-kept c =
    let joined = c.join_byte.new.bytes in
    let grown = c.extend_from_slice.new.self.items in
    let new = c.truncate.new.self.items in
    let len = c.args.len in
    same-first new c.args.bytes.now.items len (λ i low.
    cut-marks grown new len (λ k below. c.truncate.ensures.by_index k 0 (omega (arith, below))) i low
    ∙ ap (λ xs. mark_at xs i) c.in_ok-extend_from_slice.ensures.items
    ∙ mark_at-append joined.items c.to_le_bytes-rest.result i (omega (arith, low, joined.ok.0, c.join_byte.ensures.len))
    ∙ c.join_byte.ensures.kept i low)

pub returns-in_err-extend_from_slice-clause-kept : goal.returns-in_err-extend_from_slice-clause-kept
returns-in_err-extend_from_slice-clause-kept c =
    same-first c.extend_from_slice.new.self.items c.args.bytes.now.items c.args.len (λ i low.
    ap (λ xs. mark_at xs i) c.in_err-extend_from_slice.ensures.items ∙ c.join_byte.ensures.kept i low)
