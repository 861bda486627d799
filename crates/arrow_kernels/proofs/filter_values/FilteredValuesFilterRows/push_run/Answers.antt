use Rattle.std.proofs.Common.{◌-◌, ◌++◌, ap, arith, drop, take, ◌∙◌}
use Rattle.arrow_kernels.proofs.RunLemmas.{rows-more}
use Rattle.arrow_kernels.proofs.filter_values.FilteredValuesFilterRows.push_run.Goals as goal

pub returns : goal.returns
returns g c =
    let selected = c.args.self.now.selected.now in
    let values = c.args.self.now.values.now in
    let first = c.args.first in
    let end = c.args.end in
    let was = c.requires.so_far in
    record {
      same = was.same;
      so_far = c.in_ok-extend_from_slice.ensures.items ∙ ap (λ kept. kept ++ take (end - first) (drop first values))
          was.so_far
          ∙ rows-more selected values first end was.same c.requires.order c.requires.within c.requires.set;
      fits = omega (arith, was.fits, c.in_ok-extend_from_slice.ensures.capacity);
    }
