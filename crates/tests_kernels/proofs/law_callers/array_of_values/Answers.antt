use Rattle.std.proofs.Common.{◌∙◌, ap}
use Rattle.arrow_types.specs.Types.{int64, plain}
use Rattle.arrow_column.specs.Column.{slots_of}
use Rattle.tests_kernels.proofs.law_callers.array_of_values.Goals as goal

pub returns : goal.returns
returns c = ap slots_of c.new.ensures ∙ c.slots_of_parts.ensures.bare (plain int64) tt c.args.values
