-- How often acts were done, one after the other.
use Rattle.std.proofs.Common.{◌≡◌, ℕ, zero, suc, ◌+◌, ◌≤◌, refl, sym, subst, ap, ◌∙◌, arith}
use Rattle.std.proofs.lemmas.Bool.Decides.{nat_tests}
use Rattle.arrow_check.specs.Reading.{Reading, LooksAtMost, RisesAtMost, ReadsAtMost, many_more, one_more}
use Rattle.arrow_check.specs.Reading.{after_ascii, after_whole_test, after_look, after_looks}

rises-then : (a b old now new : ℕ) → RisesAtMost a old now → RisesAtMost b now new → RisesAtMost (a + b) old new
rises-then a b old now new first then = record { never_falls = omega arith; most = omega arith }

-- one run of acts and then another
reads-then : (a w l a2 w2 l2 : ℕ) (old now new : Reading) → ReadsAtMost a w l old now → ReadsAtMost a2 w2 l2 now new
    → ReadsAtMost (a + a2) (w + w2) (l + l2) old new
reads-then a w l a2 w2 l2 old now new first then = record {
  bytes = then.bytes ∙ first.bytes;
  ascii = rises-then a a2 _ _ _ first.ascii then.ascii;
  whole = rises-then w w2 _ _ _ first.whole then.whole;
  looked = rises-then l l2 _ _ _ first.looked then.looked;
}

-- at most so often is at most more often
reads-within : (a w l a2 w2 l2 : ℕ) (old new : Reading) → a ≤ a2 → w ≤ w2 → l ≤ l2 → ReadsAtMost a w l old new
    → ReadsAtMost a2 w2 l2 old new
reads-within a w l a2 w2 l2 old new fewer-a fewer-w fewer-l done = record {
  bytes = done.bytes;
  ascii = record { never_falls = done.ascii.never_falls; most = omega (arith, done.ascii.most) };
  whole = record { never_falls = done.whole.never_falls; most = omega (arith, done.whole.most) };
  looked = record { never_falls = done.looked.never_falls; most = omega (arith, done.looked.most) };
}

rises-one : (n : ℕ) → RisesAtMost 1 n (one_more n)
rises-one n = record { never_falls = grind (arith, nat_tests); most = grind (arith, nat_tests) }

stays : (n : ℕ) → RisesAtMost 0 n n
stays n = record { never_falls = omega arith; most = omega arith }

looks-read : (n : ℕ) (r : Reading) → ReadsAtMost 0 0 n r (after_looks n r)
looks-read zero r = record { bytes = refl; ascii = stays _; whole = stays _; looked = stays _ }
looks-read (suc n) r =
    let one : ReadsAtMost 0 0 1 (after_looks n r) (after_look (after_looks n r)) =
    record { bytes = refl; ascii = stays _; whole = stays _; looked = rises-one _ } in
    reads-within 0 0 (n + 1) 0 0 (suc n) r (after_looks (suc n) r) (omega arith) (omega arith) (omega arith)
    (reads-then 0 0 n 0 0 1 r (after_looks n r) _ (looks-read n r) one)

-- one test whether bytes are ASCII was made
pub reads-ascii : (most : ℕ) (r : Reading) → ReadsAtMost 1 1 most r (after_ascii r)
reads-ascii most r = reads-within 1 0 0 1 1 most r (after_ascii r) (omega arith) (omega arith) (omega arith)
    (record { bytes = refl; ascii = rises-one _; whole = stays _; looked = stays _ })

-- both tests were made, and looks
pub reads-all : (most : ℕ) (r new : Reading) → LooksAtMost most (after_whole_test (after_ascii r)) new
    → ReadsAtMost 1 1 most r new
reads-all most r new looked =
    let both : ReadsAtMost 1 1 0 r (after_whole_test (after_ascii r)) = record {
      bytes = refl;
      ascii = rises-one _;
      whole = rises-one _;
      looked = stays _;
    } in
    let looks = looks-read looked.looks (after_whole_test (after_ascii r)) in
    subst (ReadsAtMost 1 1 most r) (sym looked.is)
    (reads-within 1 1 (0 + looked.looks) 1 1 most r _ (omega arith) (omega arith) (omega (arith, looked.few))
    (reads-then 1 1 0 0 0 looked.looks r _ _ both looks))

many-more : (n m count : ℕ) → many_more n (many_more m count) ≡ many_more (n + m) count
many-more zero m count = ap (λ k. many_more k count) (let e : m ≡ 0 + m = omega arith in e)
many-more (suc n) m count = ap one_more (many-more n m count)
    ∙ ap (λ k. many_more k count) (let e : suc (n + m) ≡ suc n + m = omega arith in e)

-- looks in two goes
pub looks-then : (n m all : ℕ) (r : Reading) → n + m ≡ all → after_looks n (after_looks m r) ≡ after_looks all r
looks-then n m all r both =
    (λ k. record r { cost = record r.cost { bytes_looked = many-more n m r.cost.bytes_looked k } })
    ∙ ap (λ k. after_looks k r) both
