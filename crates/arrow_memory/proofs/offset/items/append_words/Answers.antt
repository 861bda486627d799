use Rattle.std.proofs.Common.{◌≡◌, ◌+◌, ◌-◌, ◌≤◌, [], ◌++◌, length, take, drop, length-append, ap, ap₂, ◌∙◌, arith}
use Rattle.std.proofs.lemmas.List.{length-take-le}
use Rattle.arrow_memory.proofs.WordLemmas.{words-joined}
use Rattle.arrow_memory.proofs.offset.items.append_words.Goals as goal

pub returns : goal.returns
returns c =
    let old = c.args.values.now.items in
    let bytes = c.args.bytes.now in
    let first = c.in-Some-Some.first.now in
    let last = c.in-Some-Some.last.now in
    let slice = c.as_mut_slice.result.now in
    let word = c.in-Some-Some.ensures.cases in
    let end : c.len-before.result + length bytes ≡ length old + length bytes = omega (arith, c.len-before.ensures) in
    let twice = c.in-Ok.ensures.items ∙ ap (λ ys. old ++ ys) c.as_flattened.ensures.value in
    let fills : 8 ≤ length (first ++ []) = omega (
      arith,
      length-append first [],
      ap length word.same,
      length-take-le 8 bytes word.enough,
    ) in
    let cut = c.truncate.ensures.items ∙ ap₂ take end twice in
    words-joined old bytes first (first ++ []) c.truncate.new.self.items word.enough
    (omega (arith, c.requires.short)) word.same fills cut
    last slice (drop (length (take (length slice - 8) slice ++ last)) c.truncate.new.self.items)
    c.truncate.new.self.len c.in-Some-Some.ensures'.cases.1.same c.as_mut_slice.ensures.value
    (omega (arith, c.truncate.ensures.len))
