use Rattle.std.proofs.Common.{◌∷◌, ◌++◌, [], ap, arith, sym, true, ◌∙◌}
use Rattle.std.proofs.lemmas.Option.{slice_get_read, slice_get_within}
use Rattle.arrow_kernels.proofs.ChoiceLemmas.{where-set}
use Rattle.arrow_kernels.proofs.WordLemmas.{room-left}
use Rattle.arrow_kernels.proofs.filter_values.FilteredValuesFilterRows.push_row.Goals as goal

pub bounds-values-i : goal.bounds-values-i
bounds-values-i g c = omega (
  arith,
  c.requires.so_far.same,
  slice_get_within c.args.self.now.selected.now c.args.i true c.requires.set,
)

pub push_reserved-requires : goal.push_reserved-requires
push_reserved-requires g c =
    let selected = c.args.self.now.selected.now in
    let values = c.args.self.now.values.now in
    let was = c.requires.so_far in
    let x = c.index-values-i.result in
    let low = slice_get_within selected c.args.i true c.requires.set in
    let read = slice_get_read values _ c.args.i x was.same low c.index-values-i.is in
    room-left selected values c.args.kept.now.items c.args.i _ _ x c.requires.set read was.so_far (omega arith) was.fits

pub returns : goal.returns
returns g c =
    let selected = c.args.self.now.selected.now in
    let values = c.args.self.now.values.now in
    let was = c.requires.so_far in
    let x = c.index-values-i.result in
    let low = slice_get_within selected c.args.i true c.requires.set in
    let read = slice_get_read values _ c.args.i x was.same low c.index-values-i.is in
    record {
      same = was.same;
      so_far = c.push_reserved.ensures.items ∙ ap (λ kept. kept ++ x ∷ []) was.so_far
          ∙ sym (where-set selected values c.args.i x c.requires.set read);
      fits = omega (arith, was.fits, c.push_reserved.ensures.capacity);
    }
