use Rattle.std.proofs.Common.{◌≡◌, ◌^◌, ◌<◌, take}
use Rattle.arrow_memory.specs.Marks.{bits_of}
use Rattle.arrow_bytes.specs.Selection.{at_keys}
use Rattle.arrow_kernels.proofs.take_parts.taken_word.Given as goal

abbrev pub invariant-loop-key : goal.invariant-loop-key
invariant-loop-key g l = record {
  counted : l.count ≡ l.key-index;
  small : l.word < 2 ^ l.count;
  so_far : bits_of l.word l.count ≡ at_keys g.K.IndexKey.number (take l.key-index l.keys) l.marks;
}
