use Rattle.std.proofs.Common.{◌+◌, ◌∷◌, [], arith, sym, true}
use Rattle.std.proofs.lemmas.Option.{slice_get_within}
use Rattle.std.proofs.lemmas.Result.{MatchResult-weaker}
use Rattle.arrow_bytes.specs.Selection.{set_before}
use Rattle.arrow_kernels.proofs.ChoiceLemmas.{where-set}
use Rattle.arrow_kernels.proofs.ItemLemmas.{bare-fits, bare-grown, set-before-length}
use Rattle.arrow_kernels.proofs.filter_values.FilteredItemsFilterRows.push_row.Goals as goal

pub value-requires : goal.value-requires
value-requires g c = omega (
  arith,
  c.requires.so_far.same,
  slice_get_within c.args.self.now.selected.now c.args.i true c.requires.set,
)

pub push_fitting_item-requires-clause-fits : goal.push_fitting_item-requires-clause-fits
push_fitting_item-requires-clause-fits g c =
    let selected = c.args.self.now.selected.now in
    let items = c.args.self.now.items in
    let i = c.args.i in
    let item = c.value.result.now in
    let was = c.requires.so_far in
    bare-fits g.O.Offset.most c.args.kept.now (set_before i selected items) (item ∷ [])
    (set_before (i + 1) selected items) was.so_far
    (sym (where-set selected items i item c.requires.set c.value.ensures.value))
    (omega (arith, was.fits, set-before-length (i + 1) selected items))

pub returns : goal.returns
returns g c =
    let selected = c.args.self.now.selected.now in
    let items = c.args.self.now.items in
    let i = c.args.i in
    let item = c.value.result.now in
    let was = c.requires.so_far in
    let more = sym (where-set selected items i item c.requires.set c.value.ensures.value) in
    MatchResult-weaker c.push_fitting_item.result c.push_fitting_item.ensures.ok (λ _ grown. record {
      same = was.same;
      so_far = bare-grown g.O.Offset.most c.args.kept.now (set_before i selected items) (item ∷ [])
          (set_before (i + 1) selected items) was.so_far more _ grown;
      fits = was.fits;
    }) (λ _ t. t)
