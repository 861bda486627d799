use Rattle.arrow_bitmap.proofs.ByteWords.{moved-high, moved-low}
use Rattle.arrow_bitmap.proofs.words.moved_word.Goals as goal

pub returns-clause-low : goal.returns-clause-low
returns-clause-low c = moved-low c.args.word c.args.next c.args.shift c.ranges.word.fits c.requires.some
    c.requires.within

pub returns-clause-high : goal.returns-clause-high
returns-clause-high c = moved-high c.args.word c.args.next c.args.shift c.ranges.word.fits c.requires.some
    c.requires.within
