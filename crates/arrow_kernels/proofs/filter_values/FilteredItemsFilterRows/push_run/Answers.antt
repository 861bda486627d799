use Rattle.std.proofs.Common.{◌-◌, arith, drop, take}
use Rattle.std.proofs.lemmas.Result.{MatchResult-weaker}
use Rattle.arrow_bytes.specs.Selection.{set_before}
use Rattle.arrow_kernels.proofs.ItemLemmas.{bare-fits, bare-grown, set-before-length}
use Rattle.arrow_kernels.proofs.RunLemmas.{rows-more}
use Rattle.arrow_kernels.proofs.filter_values.FilteredItemsFilterRows.push_run.Goals as goal

pub push_fitting_items-requires-clause-within : goal.push_fitting_items-requires-clause-within
push_fitting_items-requires-clause-within g c =
    omega (arith, c.requires.order, c.requires.within, c.requires.so_far.same)

pub push_fitting_items-requires-clause-fits : goal.push_fitting_items-requires-clause-fits
push_fitting_items-requires-clause-fits g c =
    let selected = c.args.self.now.selected.now in
    let items = c.args.self.now.items in
    let first = c.args.first in
    let end = c.args.end in
    let was = c.requires.so_far in
    bare-fits g.O.Offset.most c.args.kept.now (set_before first selected items) (take (end - first) (drop first items))
    (set_before end selected items) was.so_far
    (rows-more selected items first end was.same c.requires.order c.requires.within c.requires.set)
    (omega (arith, was.fits, set-before-length end selected items))

pub returns : goal.returns
returns g c =
    let selected = c.args.self.now.selected.now in
    let items = c.args.self.now.items in
    let first = c.args.first in
    let end = c.args.end in
    let was = c.requires.so_far in
    let more = rows-more selected items first end was.same c.requires.order c.requires.within c.requires.set in
    MatchResult-weaker c.push_fitting_items.result c.push_fitting_items.ensures.ok (λ _ grown. record {
      same = was.same;
      so_far = bare-grown g.O.Offset.most c.args.kept.now (set_before first selected items)
          (take (end - first) (drop first items)) (set_before end selected items) was.so_far more _ grown;
      fits = was.fits;
    }) (λ _ t. t)
