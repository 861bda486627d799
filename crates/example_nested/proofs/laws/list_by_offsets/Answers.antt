use Rattle.std.proofs.Common.{ap, ◌∙◌, slice_get}
use Rattle.dethrugn.specs.Pieces.{items_of}
use Rattle.dethrugn.proofs.CallerLemmas.Bytes.{item-at}
use Rattle.dethrugn.proofs.CallerLemmas.Column.{stored-rows}
use Rattle.example_nested.proofs.laws.list_by_offsets.Goals as goal

pub returns : goal.returns
returns g c = λ offsets slots mask i passes low.
    ap (λ lists. slice_get lists i) (stored-rows (items_of offsets slots) mask passes.1.0)
    ∙ item-at offsets slots i low
