use Rattle.std.proofs.Common.{◌<◌, [], ◌∷◌, length, take, Some, None, is_ok, refl, ap, arith}
use Rattle.std.proofs.lemmas.List.{get_or_default, take_all}
use Rattle.std.specs.Fmt.{◌++?◌, debug_items}
use Rattle.std.proofs.Debugs.{shows_then, shows_part_then, shows_from, displays_from, debug_items-take}
use Rattle.arrow_types.specs.ListText.{list_text, separator, slot_at}
use Rattle.arrow_types.proofs.list_text.write_list.Goals as goal

pub loop-i-preserved : goal.loop-i-preserved
loop-i-preserved g c =
    let took = g.W.Write.write_str_gives in
    let texts = g.L.WriteItems.texts c.args.items.now in
    let f = c.args.f.now in
    let i = c.loop-i.i in
    let text = slot_at texts i in
    let low : i < length texts = omega (arith, c.loop-i-test.true, c.item_count-i-end.ensures) in
    let more = debug_items-take (λ t. t) texts i text low (get_or_default texts i None text low) in
    λ plain.
    rw more (shows_part_then took f c.loop-i.f c.write_item.new.f (91 ∷ []) (debug_items (λ t. t) [] (take i texts))
    (Some (separator i) ++? text) (c.loop-i.invariant plain)
    (λ p.
    shows_then took c.loop-i.f c.write_separator.new.f c.write_item.new.f (Some (separator i)) text
    (c.in_ok-write_separator.ensures p refl)
    (λ q.
    shows_from took c.write_separator.new.f c.write_item.new.f c.write_item.result text c.write_item.ensures q
    (ap is_ok c.in_ok-write_item.was))))

pub returns : goal.returns
returns g c =
    let took = g.W.Write.write_str_gives in
    let texts = g.L.WriteItems.texts c.args.items.now in
    let f = c.args.f.now in
    let all = take_all c.loop-i.i texts (omega (arith, c.loop-i-test.false, c.item_count-i-end.ensures)) in
    displays_from took f c.write_str-2.new.self c.write_str-2.result (list_text texts) (λ p ok.
    shows_part_then took f c.loop-i.f c.write_str-2.new.self (91 ∷ []) (debug_items (λ t. t) [] texts) (Some (93 ∷ []))
    (rw all at (c.loop-i.invariant p))
    (λ plain. c.write_str-2.ensures.writes plain ok))
