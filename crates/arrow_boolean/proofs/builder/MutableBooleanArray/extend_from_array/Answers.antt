use Rattle.std.proofs.lemmas.Result.{on_ok_weaker}
use Rattle.arrow_boolean.proofs.builder.MutableBooleanArray.extend_from_array.Goals as goal

pub returns-clause-ok : goal.returns-clause-ok
returns-clause-ok c = rw (← c.self.view_is, ← c.array.view_is) (on_ok_weaker c.extend_from_frozen.result (λ done. done.1)
    c.extend_from_frozen.ensures.ok)
