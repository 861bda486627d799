use Rattle.std.proofs.Common.{◌≡◌, ◌∷◌, ◌++◌, take, flat_map, string_bytes}
use Rattle.arrow_syntax.proofs.print.push_others.Given as goal

abbrev pub invariant-loop-each : goal.invariant-loop-each
invariant-loop-each g l = string_bytes l.text ≡ string_bytes l.fn.text
    ++ flat_map (λ x. 32 ∷ g.P.Part.part_text x) (take l.each-index l.parts)
