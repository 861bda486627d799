use Rattle.std.proofs.Common.{map, take}
use Rattle.dethrugn.specs.Column.{slots_of}
use Rattle.example_record_batch.specs.Batches.{named}
use Rattle.example_csv.specs.Summary.{AreLeast}
use Rattle.example_csv.proofs.summary.least_texts.Given as goal

abbrev pub invariant-loop-field : goal.invariant-loop-field
invariant-loop-field l = AreLeast (map named (take l.field-index l.field-items)) (slots_of l.texts)
