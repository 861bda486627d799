use Rattle.std.proofs.Common.{arith, ◌∙◌, ap, Some, sym}
use Rattle.std.specs.Int.{w128}
use Rattle.std.proofs.lemmas.Int.{to_z-of_z}
use Rattle.std.proofs.lemmas.List.{length-map}
use Rattle.std.proofs.lemmas.Option.{slice_get-get_or}
use Rattle.arrow_types.proofs.CallerLemmas.{get-map}
use Rattle.compute_cast.proofs.integers.FittingNumbersMarkSource.mark.Goals as goal

pub returns : goal.returns
returns g c =
    let xs = c.args.self.now.values.now in
    let fits = λ (x : g.row.I.Denot). g.O.NativeArithmetics.fits (g.I.NativeArithmetics.number x) in
    get-map fits xs c.args.i _ (slice_get-get_or xs c.args.i c.index-self-i.result (omega (
      arith,
      c.requires,
      length-map xs fits,
    )))
    ∙ ap Some (sym (c.is_fitting.ensures ∙ ap g.O.NativeArithmetics.fits
    (to_z-of_z w128 c.to_i128.result (record { sfits = c.to_i128.type_inv }) ∙ c.to_i128.ensures.value)))
