use Rattle.std.proofs.Common.{ap, length, sym, ◌∙◌}
use Rattle.std.specs.List.{concat}
use Rattle.std.proofs.lemmas.Result.{MatchResult-weaker}
use Rattle.arrow_bytes.specs.Pieces.{bare_items}
use Rattle.arrow_bytes.specs.Selection.{where_set}
use Rattle.arrow_kernels.proofs.ChoiceLemmas.{where-full}
use Rattle.arrow_kernels.proofs.ItemLemmas.{bare-around}
use Rattle.arrow_kernels.proofs.filter_values.filter_byte_values.Goals as goal

pub returns-then-byte_count-len-clause-ok : goal.returns-then-byte_count-len-clause-ok
returns-then-byte_count-len-clause-ok g c =
    let values = c.args.values.now in
    let alone = bare-around values (ap (λ items. length (concat items)) (sym c.as_slice-items.ensures)
    ∙ sym c.byte_count.ensures.count ∙ c.if-byte_count-len.true ∙ c.len.ensures ∙ ap length c.bytes.ensures.value) in
    let full = where-full c.args.selected.now values.items (sym c.unset_bits.ensures ∙ c.if-unset_bits-eq0.true)
    c.requires in
    MatchResult-weaker c.clone.result c.clone.ensures.ok (λ kept e. e ∙ alone ∙ ap bare_items (sym full)) (λ _ t. t)

pub filter_some_items-requires : goal.filter_some_items-requires
filter_some_items-requires g c = c.requires ∙ ap length (sym c.as_slice-items.ensures)

pub returns-clause-ok : goal.returns-clause-ok
returns-clause-ok g c = MatchResult-weaker c.freeze.result c.freeze.ensures.ok
    (λ frozen e. e ∙ c.in_ok-filter_some_items.ensures.ok
    ∙ ap (λ items. bare_items (where_set c.args.selected.now items)) c.as_slice-items.ensures) (λ _ t. t)
