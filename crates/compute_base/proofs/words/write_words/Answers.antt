use Rattle.compute_base.proofs.WordLemmas.{no-marks}
use Rattle.compute_base.proofs.words.write_words.Goals as goal

pub write_words_from-requires-clause-written : goal.write_words_from-requires-clause-written
write_words_from-requires-clause-written g c = no-marks (g.S.MarkWords.marks c.args.source.now) c.args.target.now
