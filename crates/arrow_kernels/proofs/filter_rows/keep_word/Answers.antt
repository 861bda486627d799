use Rattle.std.proofs.Common.{inl, inr, arith}
use Rattle.std.proofs.lemmas.Bool.{cases_lt}
use Rattle.arrow_kernels.proofs.RunLemmas.{full-set, read-of}
use Rattle.arrow_kernels.proofs.filter_rows.keep_word.Goals as goal

pub returns-then-word : goal.returns-then-word
returns-then-word g c =
    let selected = g.R.FilterRows.selected c.args.rows.now in
    let read = read-of c.mask.result.now selected c.args.row 64 _ c.mask.ensures c.word-word.ensures.marks in
    record {
      order = omega (arith, c.requires.pending.order);
      within = c.requires.within;
      set = λ k low high. elim (cases_lt k c.args.row) [
        | inl before ↦ c.requires.pending.set k low before
        | inr here ↦ full-set selected c.args.row c.word-word.result read c.if-word.true k here high
      ];
      so_far = c.requires.pending.so_far;
    }
