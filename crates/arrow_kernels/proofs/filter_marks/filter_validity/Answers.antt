use Rattle.std.proofs.Common.{ap, option_map, sym, ◌∙◌}
use Rattle.std.specs.Option.{option_copied}
use Rattle.arrow_column.specs.Masks.{mask_with_nulls}
use Rattle.arrow_bytes.specs.Selection.{where_set}
use Rattle.arrow_kernels.proofs.ChoiceLemmas.{where-valid-mask}
use Rattle.arrow_kernels.proofs.filter_marks.filter_validity.Goals as goal

pub returns-then-unset_bits-eq0-clause-ok : goal.returns-then-unset_bits-eq0-clause-ok
returns-then-unset_bits-eq0-clause-ok c =
    where-valid-mask c.args.selected.now c.in-Some.marks.now (sym c.unset_bits.ensures ∙ c.if-unset_bits-eq0.true)
    ∙ sym (ap (λ o. mask_with_nulls (option_map (where_set c.args.selected.now) (option_copied o))) c.in-Some.is)
