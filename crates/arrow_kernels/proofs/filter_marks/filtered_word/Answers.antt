use Rattle.arrow_kernels.proofs.BitLemmas.{where-all-bits}
use Rattle.arrow_kernels.proofs.filter_marks.filtered_word.Goals as goal

pub returns-then-selected-eq18446744073709551615-clause-bits :
    goal.returns-then-selected-eq18446744073709551615-clause-bits
returns-then-selected-eq18446744073709551615-clause-bits c =
    where-all-bits c.args.selected c.args.marks c.if-selected-eq18446744073709551615.true
