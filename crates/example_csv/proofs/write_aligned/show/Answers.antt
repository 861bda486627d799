use Rattle.std.proofs.Common.{◌≡◌, ◌∷◌, ◌++◌, ◌∙◌, [], ℕ, List, ap, map, refl, string_bytes, sym}
use Rattle.unicode_width.specs.Width.{str_width}
use Rattle.std.specs.Prelude.{chars, false, encode_utf8, encode_utf8_all}
use Rattle.std.proofs.lemmas.Iterator.{YieldsList-from_chars}
use Rattle.std.proofs.lemmas.Iterator.Consumers.{YieldsList-end}
use Rattle.std.proofs.lemmas.List.{append-nil, map-append, map-id}
use Rattle.std.proofs.lemmas.Str.{encodes-append}
use Rattle.example_csv.specs.Aligned.{shown, shown_char}
use Rattle.example_csv.proofs.write_aligned.show.Goals as goal

one_more : (cs : List ℕ) (c : ℕ) → encode_utf8_all (map shown_char (cs ++ c ∷ []))
    ≡ encode_utf8_all (map shown_char cs) ++ encode_utf8 (shown_char c)
one_more cs c = rw
    (map-append shown_char cs (c ∷ []), encodes-append (map shown_char cs) (shown_char c ∷ []), append-nil (encode_utf8 (shown_char c)))
    refl

pub loop-c-preserved : goal.loop-c-preserved
loop-c-preserved c =
    let more = one_more c.loop-c.yielded c.in-Some.c in
    c.in_ok-push.ensures.bytes ∙ rw (c.shown_char.ensures, c.loop-c.invariant) (sym more)

pub returns-clause-cell : goal.returns-clause-cell
returns-clause-cell c =
    let all =
    YieldsList-end (YieldsList-from_chars c.args.text.now c.utf8.text cc) c.loop-c.yielded _ c.loop-c.yielded_by _
    _ c.in-None.is c.next.ensures.steps in
    c.loop-c.invariant ∙ ap (λ cs. encode_utf8_all (map shown_char cs)) (sym (map-id c.loop-c.yielded) ∙ all.0)

pub returns-clause-width : goal.returns-clause-width
returns-clause-width c =
    c.width.ensures.value ∙ ap (λ bs. str_width false (chars bs)) (c.as_str.ensures.value ∙ returns-clause-cell c)
