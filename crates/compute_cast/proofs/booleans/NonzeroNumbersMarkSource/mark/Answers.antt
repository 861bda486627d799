use Rattle.std.proofs.Common.{arith, ◌∙◌, ap, Some, sym}
use Rattle.std.proofs.lemmas.List.{length-map}
use Rattle.std.proofs.lemmas.Option.{slice_get-get_or}
use Rattle.arrow_types.proofs.CallerLemmas.{get-map}
use Rattle.compute_cast.specs.Cast.{is_nonzero}
use Rattle.compute_cast.proofs.booleans.NonzeroNumbersMarkSource.mark.Goals as goal

pub returns : goal.returns
returns g c =
    let xs = c.args.self.now.values.now in
    let test = λ (x : g.row.T.Denot). is_nonzero (g.T.NativeArithmetics.number x) in
    get-map test xs c.args.i _ (slice_get-get_or xs c.args.i c.index-self-i.result (omega (
      arith,
      c.requires,
      length-map xs test,
    ))) ∙ ap Some (sym c.is_nonzero.ensures)
