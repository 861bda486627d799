use Rattle.std.proofs.Common.{ap, ◌∙◌}
use Rattle.std.proofs.lemmas.Result.{IfErr-weaker, on_ok_weaker}
use Rattle.arrow_column.specs.Column.{append_slots, refused_growth}
use Rattle.arrow_column.proofs.CallerLemmas.{never-over, same-slots}
use Rattle.arrow_primitive.proofs.builder.MutablePrimitiveArray.extend.Goals as goal

pub returns-clause-ok : goal.returns-clause-ok
returns-clause-ok g c = rw (← c.self.view_is) (on_ok_weaker c.extend.result (λ done.
    (done.0, done.1, done.2.1 ∙ ap (append_slots g.T.NativeType.zero c.self.inside.column) (same-slots done.0)))
    c.extend.ensures.ok)

pub returns-clause-err : goal.returns-clause-err
returns-clause-err g c =
    rw (← c.self.view_is) (IfErr-weaker c.extend.result _ _ (λ e refused. (
      refused.4.2 ∙ ap refused_growth (never-over c.extend.new.self refused.1),
      (
        refused.0,
        refused.1,
        refused.2,
        refused.3,
        refused.4.1 ∙ ap (append_slots g.T.NativeType.zero c.self.inside.column) (same-slots refused.0),
      ),
    ))
    c.extend.ensures.err)
