use Rattle.std.proofs.Common.{ap, map, refl, ◌∙◌}
use Rattle.compute_cast.specs.Cast.{of_same_number}
use Rattle.compute_base.proofs.CallerLemmas.{checked-map-fits, makes-checked-map, marks-fit}
use Rattle.compute_cast.proofs.integers.primitive_to_primitive.Goals as goal

pub mask_of_both-requires : goal.mask_of_both-requires
mask_of_both-requires g c =
    let I = g.I.NativeArithmetics in
    let O = g.O.NativeArithmetics in
    let back = λ (x : g.row.I.Denot). O.wrap (I.number x) in
    let fits = λ (x : g.row.I.Denot). O.fits (I.number x) in
    let numbers = c.as_slice-numbers.ensures ∙ c.values.ensures in
    marks-fit back fits (of_same_number I.number O.fits O.wrap) (λ x. refl) c.args.array.now c.in_ok-values.values
    c.in_ok-marks.marks _ (c.in_ok-values.ensures.ok ∙ c.in_ok-wrap_values.ensures.ok ∙ ap (map back) numbers)
    (c.in_ok-marks.ensures.ok ∙ ap (map fits) numbers) c.validity.ensures.mask

pub new-requires-clause-mask : goal.new-requires-clause-mask
new-requires-clause-mask g c =
    let I = g.I.NativeArithmetics in
    let O = g.O.NativeArithmetics in
    let back = λ (x : g.row.I.Denot). O.wrap (I.number x) in
    let fits = λ (x : g.row.I.Denot). O.fits (I.number x) in
    let numbers = c.as_slice-numbers.ensures ∙ c.values.ensures in
    checked-map-fits back fits (of_same_number I.number O.fits O.wrap) (λ x. refl) c.args.array.now c.in_ok-values.values
    c.in_ok-marks.marks _ (c.in_ok-values.ensures.ok ∙ c.in_ok-wrap_values.ensures.ok ∙ ap (map back) numbers)
    (c.in_ok-marks.ensures.ok ∙ ap (map fits) numbers) c.validity.ensures.mask c.in_ok-validity.validity
    c.in_ok-validity.ensures.ok

pub returns-clause-ok : goal.returns-clause-ok
returns-clause-ok g c =
    let I = g.I.NativeArithmetics in
    let O = g.O.NativeArithmetics in
    let back = λ (x : g.row.I.Denot). O.wrap (I.number x) in
    let fits = λ (x : g.row.I.Denot). O.fits (I.number x) in
    let numbers = c.as_slice-numbers.ensures ∙ c.values.ensures in
    makes-checked-map back fits (of_same_number I.number O.fits O.wrap) (λ x. refl) c.args.array.now c.in_ok-values.values
    c.in_ok-marks.marks _ (c.in_ok-values.ensures.ok ∙ c.in_ok-wrap_values.ensures.ok ∙ ap (map back) numbers)
    (c.in_ok-marks.ensures.ok ∙ ap (map fits) numbers) c.validity.ensures.mask c.in_ok-validity.validity
    c.in_ok-validity.ensures.ok c.validity.ensures.is_column _ _ refl c.new.result c.new.ensures
