use Rattle.std.proofs.Common.{[], ◌∷◌, Some, take}
use Rattle.std.specs.Fmt.{IsPlainFormatter, ◌++?◌, debug_items}
use Rattle.std.proofs.Debugs.{Shows}
use Rattle.arrow_types.proofs.list_text.write_list.Given as goal

-- the bracket and the items so far are written
abbrev pub invariant-loop-i : goal.invariant-loop-i
invariant-loop-i g l =
    let took = g.W.Write.write_str_gives in
    let texts = g.L.WriteItems.texts l.items in
    IsPlainFormatter l.fn.f → Shows took l.fn.f (Some (91 ∷ []) ++? debug_items (λ text. text) [] (take l.i texts)) l.f
