use Rattle.std.proofs.Common.{◌≡◌, ◌+◌, ◌-◌, ◌*◌, ◌/◌, ◌++◌, ap, arith, drop, length, length-drop, sym, take, ◌∙◌}
use Rattle.std.proofs.Math.Seq.{take-length}
use Rattle.std.proofs.lemmas.List.{length-take-le}
use Rattle.std.proofs.lemmas.Result.{MatchResult-weaker}
use Rattle.arrow_memory.specs.Marks.{bits_of}
use Rattle.arrow_bytes.specs.Selection.{at_keys}
use Rattle.arrow_kernels.proofs.ChoiceLemmas.{keys-append}
use Rattle.arrow_kernels.proofs.take_parts.take_marks.Goals as goal

pub loop-at-preserved : goal.loop-at-preserved
loop-at-preserved g c =
    let number = g.K.IndexKey.number in
    let keys = c.args.keys.now in
    let marks = c.args.marks.now in
    let at = c.loop-at.at in
    let word = c.taken_word.result in
    let e : 64 * at + 64 - 64 * at ≡ 64 = omega arith in
    let long : length (take (64 * at + 64 - 64 * at) (drop (64 * at) keys)) ≡ 64 =
    ap (λ n. length (take n (drop (64 * at) keys))) e
    ∙ length-take-le 64 (drop (64 * at) keys) (omega (arith, length-drop (64 * at) keys, c.loop-at-test.true))
    in
    let bits : bits_of word 64 ≡ at_keys number (take 64 (drop (64 * at) keys)) marks =
    ap (bits_of word) (sym long) ∙ c.taken_word.ensures
    ∙ ap (λ n. at_keys number (take n (drop (64 * at) keys)) marks) e in
    c.in_ok-extend_from_word.ensures.ok
    ∙ ap (λ ms. ms ++ bits_of word 64) c.loop-at.invariant
    ∙ ap (λ ms. at_keys number (take (64 * at) keys) marks ++ ms) bits
    ∙ sym (keys-append number keys marks (64 * at) 64)
    ∙ ap (λ n. at_keys number (take n keys) marks) (let f : 64 * at + 64 ≡ 64 * (at + 1) = omega arith in f)

pub returns-clause-ok : goal.returns-clause-ok
returns-clause-ok g c =
    let number = g.K.IndexKey.number in
    let keys = c.args.keys.now in
    let marks = c.args.marks.now in
    let words = length keys / 64 in
    let all : c.loop-at.at ≡ length keys / 64 = omega (arith, c.loop-at-test.false, c.loop-at.auto.at-end) in
    let rest = length keys - 64 * words in
    let whole : 64 * (length keys / 64) + (length keys - 64 * (length keys / 64)) ≡ length keys = omega arith in
    MatchResult-weaker c.freeze.result c.freeze.ensures.ok (λ made e.
    e
    ∙ c.in_ok-extend_from_word-2.ensures.ok
    ∙ ap (λ ms. ms ++ bits_of c.taken_word-2.result
    (length (take (length keys - 64 * (length keys / 64)) (drop (64 * (length keys / 64)) keys))))
    (c.loop-at.invariant ∙ ap (λ n. at_keys number (take (64 * n) keys) marks) all)
    ∙ ap (λ ms. at_keys number (take (64 * words) keys) marks ++ ms) c.taken_word-2.ensures
    ∙ sym (keys-append number keys marks (64 * words) rest)
    ∙ ap (λ n. at_keys number (take n keys) marks) whole
    ∙ ap (λ ks. at_keys number ks marks) (take-length keys)) (λ _ t. t)
