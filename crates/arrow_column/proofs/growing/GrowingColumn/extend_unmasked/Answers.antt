use Rattle.std.proofs.Common.{[], ◌∷◌, ◌++◌, map, Some, ◌∙◌}
use Rattle.std.proofs.lemmas.List.{map-append}
use Rattle.arrow_column.proofs.AppendLemmas.{one-more}
use Rattle.arrow_column.proofs.growing.GrowingColumn.extend_unmasked.Goals as goal

pub loop-value-preserved : goal.loop-value-preserved
loop-value-preserved g c =
    let P = g.V.PushValue in
    let xs = c.loop-value.yielded in
    let x = c.in-Some.value in
    let pushed = c.in_ok-push_unmasked.ensures in (
      one-more P.overflows P.shown g.V.MutableValues.default c.args.self.now _ c.push_unmasked.new.self (map Some xs)
          (map Some (xs ++ x ∷ [])) (Some x) (map-append Some xs (x ∷ [])) c.loop-value.invariant.0 pushed.ok,
      pushed.data_type ∙ c.loop-value.invariant.1,
      pushed.held,
    )
