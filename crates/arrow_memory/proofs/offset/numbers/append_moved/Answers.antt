use Rattle.std.proofs.Common.{◌≡◌, ◌-◌, ◌++◌, pos, map, length, take, drop, length-drop, sym, ap, ◌∙◌, arith}
use Rattle.std.proofs.lemmas.List.{take_all}
use Rattle.arrow_memory.specs.Offsets.{first_of, numbers_of, moved_behind}
use Rattle.arrow_memory.proofs.OffsetLemmas.{copied, keeps-joined, numbers-joined}
use Rattle.arrow_memory.proofs.offset.numbers.append_moved.Goals as goal

pub returns-then-number_at-last-clause-ok : goal.returns-then-number_at-last-clause-ok
returns-then-number_at-last-clause-ok g c =
    let number = g.O.Offset.number in
    let old = c.args.offsets.now.items in
    let other = c.args.other.now in
    let ns = numbers_of number other in
    let new = c.extend_from_slice.new.self.items in
    let rest : take (length other - 1) (drop 1 other) ≡ drop 1 other =
    take_all (length other - 1) (drop 1 other) (omega (arith, length-drop 1 other)) in
    let more : new ≡ old ++ drop 1 other = c.in_ok-extend_from_slice.ensures.items ∙ ap (λ zs. old ++ zs) rest in
    let here : c.args.last ≡ first_of ns = sym c.if-number_at-last.true ∙ c.number_at.ensures in
    let written : map number new ≡ map number old ++ map pos (moved_behind c.args.last ns) =
    ap (map number) more ∙ copied number g.O.Offset.most c.args.last old other c.requires.other here
    in (
      keeps-joined number g.O.Offset.most old new ns c.requires.keeps c.requires.other.legal
          (rw (← c.requires.last) c.requires.within) (rw (← c.requires.last) written),
      numbers-joined number old new (moved_behind c.args.last ns) c.requires.keeps.whole written,
    )

pub returns-clause-ok : goal.returns-clause-ok
returns-clause-ok g c =
    let number = g.O.Offset.number in
    let old = c.args.offsets.now.items in
    let ns = numbers_of number c.args.other.now in
    let new = c.with_ends.result.items in
    let taken : c.replace-taken.result.items ≡ old = ap (λ v. v.items) c.replace-taken.ensures.value ∙ c.in_ok-reserve.ensures.items in
    let written : map number new ≡ map number old ++ map pos (moved_behind c.args.last ns) =
    rw taken at c.with_ends.ensures in (
      keeps-joined number g.O.Offset.most old new ns c.requires.keeps c.requires.other.legal
          (rw (← c.requires.last) c.requires.within) (rw (← c.requires.last) written),
      numbers-joined number old new (moved_behind c.args.last ns) c.requires.keeps.whole written,
    )
