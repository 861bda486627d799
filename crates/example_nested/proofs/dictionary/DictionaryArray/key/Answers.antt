use Rattle.std.proofs.Common.{length}
use Rattle.dethrugn.specs.Column.{slots_of}
use Rattle.dethrugn.specs.IndexKey.{index_of}
use Rattle.example_nested.proofs.DictionaryLemmas.{index-within, null-index}
use Rattle.example_nested.proofs.dictionary.DictionaryArray.key.Goals as goal

pub returns-in-Some-clause-within : goal.returns-in-Some-clause-within
returns-in-Some-clause-within g c =
    rw (← c.self.view_is, c.to_index.ensures)
    (index-within (index_of (g.K.IndexKey.number c.in-Some.key)) (length (g.A.InnerArray.slots c.self.inside.values))
    (c.self.invariant c.args.i c.in-Some.key c.in-Some.ensures))

pub returns-in-None-clause-value : goal.returns-in-None-clause-value
returns-in-None-clause-value g c =
    rw (← c.self.view_is)
    (null-index g.K.IndexKey.number (slots_of c.self.inside.keys) c.args.i c.in-None.ensures)
