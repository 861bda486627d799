use Rattle.std.proofs.Common.{true}
use Rattle.dethrugn.proofs.CallerLemmas.Column.{slot-at}
use Rattle.example_nested.proofs.list.ListArray.get.Goals as goal

pub returns : goal.returns
returns g c = slot-at c.args.self.now c.args.i c.value.result true c.value.ensures c.if-is_null.ensures
