use Rattle.std.proofs.Common.{◌+◌, get_or, sym, ap, ◌∙◌, arith}
use Rattle.std.specs.Int.Count.{ones}
use Rattle.std.proofs.lemmas.Nat.{ones-le}
use Rattle.arrow_bitmap.proofs.CountLemmas.{set-more}
use Rattle.arrow_bitmap.proofs.counts.set_in_words.Goals as goal

pub loop-index-preserved : goal.loop-index-preserved
loop-index-preserved c =
    let i = c.loop-index.index in
    let low = c.loop-index-test.true in
    record {
      set = ap (λ n. n + ones (get_or c.args.block i 0)) c.loop-index.invariant.set
          ∙ sym (set-more c.args.block i c.fits-block.0 (omega (arith, low)));
      fits = omega (
        arith,
        c.loop-index.invariant.fits,
        ones-le 64 (get_or c.args.block i 0) c.loop-index-test.element_fits.fits,
      );
    }
