use Rattle.std.proofs.Common.{◌≡◌, ◌+◌, ◌-◌, ◌*◌, ◌/◌, ◌∙◌, ap, arith, drop, length, sym, take}
use Rattle.std.proofs.lemmas.List.{length-drop, length-take, take_all}
use Rattle.arrow_types.proofs.CallerLemmas.{all-pieces, more-pieces}
use Rattle.arrow_memory.specs.Marks.{bits_of}
use Rattle.compute_select.specs.Selects.{chosen_values}
use Rattle.compute_select.proofs.ChoiceLemmas.{length-chosen, piece-chosen}
use Rattle.compute_select.proofs.if_then_else.choose_values.Goals as goal

pub loop-i-preserved : goal.loop-i-preserved
loop-i-preserved g c =
    let ps = c.args.predicate.now in
    let xs = c.args.lhs.now in
    let ys = c.args.rhs.now in
    let zs = chosen_values ps xs ys in
    let a = 64 * c.loop-i.i in
    let n = a + 64 - a in
    let piece = piece-chosen ps xs ys c.word.result a n (λ k low. c.word.ensures k (omega (arith, low))) (omega arith) in
    let grown : c.choose_word.new.values.items ≡ take (64 * (c.loop-i.i + 1)) zs =
    c.choose_word.ensures.values ∙ more-pieces zs c.loop-i.values.items _ a n (64 * (c.loop-i.i + 1))
    c.loop-i.invariant.values piece (omega arith) in
    record {
      values = grown;
      len = let size = ap length grown in omega (
        arith,
        size,
        length-take (64 * (c.loop-i.i + 1)) zs,
        length-chosen ps xs ys,
        c.requires.left,
        c.requires.right,
      );
      room = omega (arith, c.loop-i.invariant.room, c.choose_word.ensures.room);
    }

pub returns-clause-ok : goal.returns-clause-ok
returns-clause-ok g c =
    let ps = c.args.predicate.now in
    let xs = c.args.lhs.now in
    let ys = c.args.rhs.now in
    let zs = chosen_values ps xs ys in
    let a = 64 * (length xs / 64) in
    let n = length xs - a in
    let word = c.word_of-rest.result in
    let same : length ys ≡ length xs = c.requires.right ∙ sym c.requires.left in
    let piece = ap (λ m. chosen_values (bits_of word (length (take n (drop a xs)))) (take n (drop a xs))
    (take (m - a) (drop a ys))) same
    ∙ piece-chosen ps xs ys word a n (λ k low. c.word_of-rest.ensures k low) (omega arith) in
    c.choose_word-2.ensures.values
    ∙ all-pieces zs c.loop-i.values.items _ a (64 * c.loop-i.i) c.loop-i.invariant.values (omega arith)
    (piece ∙ take_all n (drop a zs) (omega (
      arith,
      length-drop a zs,
      length-chosen ps xs ys,
      c.requires.left,
      c.requires.right,
    )))
