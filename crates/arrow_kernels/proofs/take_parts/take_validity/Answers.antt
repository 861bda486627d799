use Rattle.std.proofs.Common.{ap, option_map, sym, ◌∙◌}
use Rattle.std.specs.Option.{option_copied}
use Rattle.arrow_column.specs.Masks.{mask_with_nulls}
use Rattle.arrow_bytes.specs.Selection.{at_keys}
use Rattle.arrow_kernels.proofs.ChoiceLemmas.{keys-valid-mask}
use Rattle.arrow_kernels.proofs.take_parts.take_validity.Goals as goal

pub returns-then-unset_bits-eq0-clause-ok : goal.returns-then-unset_bits-eq0-clause-ok
returns-then-unset_bits-eq0-clause-ok g c =
    keys-valid-mask g.K.IndexKey.number c.args.keys.now c.in-Some.marks.now (sym c.unset_bits.ensures
    ∙ c.if-unset_bits-eq0.true)
    ∙ sym (ap (λ o. mask_with_nulls (option_map (at_keys g.K.IndexKey.number c.args.keys.now) (option_copied o)))
    c.in-Some.is)
