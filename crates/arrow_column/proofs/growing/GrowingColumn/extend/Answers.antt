use Rattle.std.proofs.Common.{[], ◌∷◌, ◌++◌, refl, ◌∙◌}
use Rattle.arrow_column.proofs.AppendLemmas.{one-more}
use Rattle.arrow_column.proofs.growing.GrowingColumn.extend.Goals as goal

pub loop-slot-preserved : goal.loop-slot-preserved
loop-slot-preserved g c =
    let P = g.V.PushValue in
    let xs = c.loop-slot.yielded in
    let x = c.in-Some.slot in
    let pushed = c.in_ok-push.ensures in (
      one-more P.overflows P.shown g.V.MutableValues.default c.args.self.now _ c.push.new.self xs (xs ++ x ∷ []) x refl
          c.loop-slot.invariant.0 pushed.ok,
      pushed.data_type ∙ c.loop-slot.invariant.1,
    )
