use Rattle.std.proofs.Common.{◌∙◌, ap, length}
use Rattle.arrow_types.specs.Types.{int64, plain}
use Rattle.arrow_column.specs.Column.{mask_of, stored_values}
use Rattle.tests_kernels.proofs.law_callers.array_of_parts.Goals as goal

pub returns-clause-values : goal.returns-clause-values
returns-clause-values c = ap stored_values c.new.ensures
    ∙ c.rows_of_parts.ensures.values (plain int64) tt c.args.values c.args.mask c.requires

pub returns-clause-count : goal.returns-clause-count
returns-clause-count c = ap (λ column. length column.rows) c.new.ensures
    ∙ c.rows_of_parts.ensures.count (plain int64) tt c.args.values c.args.mask c.requires

pub returns-clause-mask : goal.returns-clause-mask
returns-clause-mask c = ap mask_of c.new.ensures
    ∙ c.rows_of_parts.ensures.mask (plain int64) tt c.args.values c.args.mask c.requires
