use Rattle.std.proofs.Common.{◌≡◌, ◌+◌, ◌-◌, ◌*◌, ◌++◌, List, codes, length, slice_get, Some, None, Ok}
use Rattle.std.proofs.Common.{ap, refl, subst, sym, ◌∙◌, arith, append_assoc, zero-add, Bool}
use Rattle.std.specs.Int.{div_ceil}
use Rattle.std.proofs.lemmas.List.FromFn.{get_or-map-range_with_len, length-map-range_with_len, map-range_with_len_more}
use Rattle.std.specs.Fmt.{HasWritten}
use Rattle.std.proofs.Output.{has_written_append, has_written_of_eq}
use Rattle.std.proofs.Debugs.{displays_from, Shows}
use Rattle.arrow_types.specs.ListText.{slot_at}
use Rattle.arrow_bitmap.specs.MarkText.{byte_digits, byte_text, byte_texts, mark_digit}
use Rattle.arrow_bitmap.proofs.iterator.text.BitmapIterWriteItems.write_item.Goals as goal

bytes-of : (ms : List Bool) → length (byte_texts ms) ≡ div_ceil (length ms) 8
bytes-of ms = length-map-range_with_len (λ i. Some (byte_text ms i)) 0 (div_ceil (length ms) 8)

pub digit-requires-clause-byte : goal.digit-requires-clause-byte
digit-requires-clause-byte g c = omega (arith, c.requires, bytes-of c.args.self.now)

pub loop-k-preserved : goal.loop-k-preserved
loop-k-preserved g c =
    let ms = c.args.self.now in
    let i = c.args.i in
    let k = c.loop-k.k in
    let more = map-range_with_len_more (λ k. mark_digit (slice_get ms (8 * i + 7 - k))) 0 k k (zero-add k) in
    λ plain.
    let before = c.loop-k.invariant plain in
    has_written_of_eq _ _ _ _ _
    (append_assoc (codes "0b") (byte_digits ms i k) _ ∙ ap (λ ds. codes "0b" ++ ds) (ap (λ d. byte_digits ms i k ++ d) c.digit.ensures ∙ sym more))
    (has_written_append _ _ _ _ _ _ before
    (c.in_ok-write_str-2.ensures.writes before.plain refl))

pub returns : goal.returns
returns g c =
    let ms = c.args.self.now in
    let i = c.args.i in
    let text : slot_at (byte_texts ms) i ≡ Some (byte_text ms i) =
    get_or-map-range_with_len (λ i. Some (byte_text ms i)) 0 (div_ceil (length ms) 8) i i None
    (omega (arith, c.requires, bytes-of ms)) (zero-add i) in
    let took = g.W.Write.write_str_gives in
    let f = c.args.f.now in
    let end = c.loop-k.f in
    let all : c.loop-k.k ≡ 8 = omega (arith, c.loop-k-test.false, c.loop-k.auto.k-end) in
    displays_from took f end (Ok tt) (slot_at (byte_texts ms) i) (λ p ok.
    subst (λ o. Shows took f o end) (sym text)
    (subst (λ n. HasWritten took f (codes "0b" ++ byte_digits ms i n) end) all (c.loop-k.invariant p)))
