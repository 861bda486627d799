use Rattle.std.proofs.Common.{[], ◌∷◌, ◌++◌, ap, ◌∙◌, sym, refl, append_assoc, append-nil, rules}
use Rattle.std.proofs.Output.{has_written_append, has_written_of_eq}
use Rattle.std.proofs.lemmas.Grind.{flat_map-append}
use Rattle.std.proofs.lemmas.List.{nil_from_length}
use Rattle.std.specs.Char.{encode_utf8}
use Rattle.std.specs.Fmt.{debug_escape}
use Rattle.arrow_types.specs.QuotedText.{escaped_text}
use Rattle.arrow_types.proofs.quoted.write_quoted.Goals as goal

pub loop-c-init : goal.loop-c-init
loop-c-init g c = (
  search rules,
  search rules,
  λ plain. (
    34 ∷ [],
    c.in_ok-write_str.ensures.writes plain refl,
    ap (λ text. 34 ∷ escaped_text text) (search rules),
  ),
)

pub loop-c-preserved : goal.loop-c-preserved
loop-c-preserved g c =
    let character = encode_utf8 c.in-Some.c in
    let step = c.in-Some.ensures.steps.0 in (
      search rules,
      search rules,
      λ plain.
          let so_far = c.loop-c.invariant.2 plain in (
            so_far.0 ++ escaped_text character,
            has_written_append _ _ _ _ _ _ so_far.1 (c.in_ok-write_escaped.ensures so_far.1.plain refl),
            append_assoc so_far.0 _ _
                ∙ ap (λ rest. so_far.0 ++ rest)
                (sym (flat_map-append (debug_escape 34) character _) ∙ ap escaped_text (sym step))
                ∙ so_far.2,
          ),
    )

pub returns : goal.returns
returns g c = λ plain ok.
    let so_far = c.loop-c.invariant.2 plain in
    let none = nil_from_length _ c.in-None.ensures.steps.0.0 in
    let done = sym (append-nil so_far.0) ∙ sym (ap (λ rest. so_far.0 ++ escaped_text rest) none) ∙ so_far.2 in
    has_written_of_eq _ _ _ _ _ (ap (λ text. text ++ (34 ∷ [])) done)
    (has_written_append _ _ _ _ _ _ so_far.1 (c.write_str-2.ensures.writes so_far.1.plain ok))
