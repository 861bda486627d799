use Rattle.std.proofs.Common.{◌-◌, length, refl, sym, subst, ap, ◌∙◌, arith, rules}
use Rattle.std.proofs.lemmas.Bool.{false≢true}
use Rattle.arrow_memory.specs.Offsets.{numbers_of}
use Rattle.arrow_memory.proofs.CallerLemmas.{length-numbers}
use Rattle.arrow_check.specs.Reading.{LooksAtMost, ReadsAtMost, after_ascii, after_looks, after_whole_test}
use Rattle.arrow_check.specs.Windows.{window_of, inner_before_end, PassesWhole}
use Rattle.arrow_check.proofs.CountLemmas.{reads-all, reads-ascii}
use Rattle.arrow_check.proofs.WindowLemmas.{ascii-cuts, not-ascii}
use Rattle.arrow_check.proofs.text.check_text.Goals as goal

-- a window of ASCII passes
pub returns-then-is_ascii_window-clause-ok : goal.returns-then-is_ascii_window-clause-ok
returns-then-is_ascii_window-clause-ok g c =
    let numbers = numbers_of g.O.Offset.number c.args.offsets.now in
    let bytes = (g.J.Judge.reading c.args.text.now).bytes in
    record {
      within = omega (arith, c.in_ok-check_bounds.ensures.ok, c.len.ensures);
      window = g.met.J.Judge.takes_ascii (window_of numbers bytes) c.if-is_ascii_window.ensures.answer;
      inner = ascii-cuts numbers bytes c.requires.legal c.if-is_ascii_window.ensures.answer;
    }

pub returns-then-is_ascii_window-clause-counted : goal.returns-then-is_ascii_window-clause-counted
returns-then-is_ascii_window-clause-counted g c =
    let most = length c.args.offsets.now - 2 in
    subst (ReadsAtMost 1 1 most (g.J.Judge.reading c.args.text.now)) (sym c.is_ascii_window.ensures.counted)
    (reads-ascii most (g.J.Judge.reading c.args.text.now))

pub returns-then-is_ascii_window-clause-exact : goal.returns-then-is_ascii_window-clause-exact
returns-then-is_ascii_window-clause-exact g c =
    record {
      past = λ far. absurd (omega (arith, far, c.in_ok-check_bounds.ensures.ok, c.len.ensures));
      ascii = λ _ _. c.is_ascii_window.ensures.counted;
      other = λ _ none. absurd (none c.if-is_ascii_window.ensures.answer);
      passed = λ _ none. absurd (none c.if-is_ascii_window.ensures.answer);
    }

pub returns-then-is_ascii_window-clause-rejected : goal.returns-then-is_ascii_window-clause-rejected
returns-then-is_ascii_window-clause-rejected g c = λ _ none. absurd
    (none (g.met.J.Judge.takes_ascii _ c.if-is_ascii_window.ensures.answer))

pub returns-then-not-is_cut_text-clause-counted : goal.returns-then-not-is_cut_text-clause-counted
returns-then-not-is_cut_text-clause-counted g c =
    let looked = subst (λ r. LooksAtMost (length c.args.offsets.now - 2) (after_whole_test r)
    (g.J.Judge.reading c.is_cut_text.new.text)) c.is_ascii_window.ensures.counted
    c.if-not-is_cut_text.ensures.counted in
    reads-all (length c.args.offsets.now - 2) (g.J.Judge.reading c.args.text.now)
    (g.J.Judge.reading c.is_cut_text.new.text) looked

pub returns-then-not-is_cut_text-clause-exact : goal.returns-then-not-is_cut_text-clause-exact
returns-then-not-is_cut_text-clause-exact g c =
    let looked = subst (λ r. LooksAtMost (length c.args.offsets.now - 2) (after_whole_test r)
    (g.J.Judge.reading c.is_cut_text.new.text)) c.is_ascii_window.ensures.counted
    c.if-not-is_cut_text.ensures.counted in
    let long = length-numbers g.O.Offset.number c.args.offsets.now in
    record {
      past = λ far. absurd (omega (arith, far, c.in_ok-check_bounds.ensures.ok, c.len.ensures));
      ascii = λ _ ascii. absurd (not-ascii _ c.if-is_ascii_window.ensures.answer ascii);
      other = λ _ _. subst (λ n.
          LooksAtMost (n - 2) (after_whole_test (after_ascii (g.J.Judge.reading c.args.text.now)))
          (g.J.Judge.reading c.is_cut_text.new.text)) (sym long) looked;
      passed = λ passes _. absurd
          (false≢true (c.if-not-is_cut_text.ensures.answer.1
          (subst (PassesWhole g.J.Judge.accepts (numbers_of g.O.Offset.number c.args.offsets.now))
          (sym (ap (λ r. r.bytes) c.is_ascii_window.ensures.counted)) passes)));
    }

pub returns-clause-counted : goal.returns-clause-counted
returns-clause-counted g c =
    let looked = subst (λ r. LooksAtMost (length c.args.offsets.now - 2) (after_whole_test r)
    (g.J.Judge.reading c.is_cut_text.new.text)) c.is_ascii_window.ensures.counted
    c.if-not-is_cut_text.ensures.counted in
    reads-all (length c.args.offsets.now - 2) (g.J.Judge.reading c.args.text.now)
    (g.J.Judge.reading c.is_cut_text.new.text) looked

pub returns-clause-exact : goal.returns-clause-exact
returns-clause-exact g c =
    let looked = subst (λ r. LooksAtMost (length c.args.offsets.now - 2) (after_whole_test r)
    (g.J.Judge.reading c.is_cut_text.new.text)) c.is_ascii_window.ensures.counted
    c.if-not-is_cut_text.ensures.counted in
    let long = length-numbers g.O.Offset.number c.args.offsets.now in
    record {
      past = λ far. absurd (omega (arith, far, c.in_ok-check_bounds.ensures.ok, c.len.ensures));
      ascii = λ _ ascii. absurd (not-ascii _ c.if-is_ascii_window.ensures.answer ascii);
      other = λ _ _. subst (λ n.
          LooksAtMost (n - 2) (after_whole_test (after_ascii (g.J.Judge.reading c.args.text.now)))
          (g.J.Judge.reading c.is_cut_text.new.text)) (sym long) looked;
      passed = λ _ _. c.if-not-is_cut_text.ensures.looks refl
          ∙ ap (λ r. after_looks (inner_before_end (numbers_of g.O.Offset.number c.args.offsets.now))
          (after_whole_test r)) c.is_ascii_window.ensures.counted;
    }

pub returns-then-not-is_cut_text-clause-err : goal.returns-then-not-is_cut_text-clause-err
returns-then-not-is_cut_text-clause-err g c =
    let stays = ap (λ r. r.bytes) c.is_ascii_window.ensures.counted in
    let passes_not = λ (passes : PassesWhole g.J.Judge.accepts (numbers_of g.O.Offset.number c.args.offsets.now)
    (g.J.Judge.reading c.args.text.now).bytes).
    false≢true (c.if-not-is_cut_text.ensures.answer.1
    (subst (PassesWhole g.J.Judge.accepts (numbers_of g.O.Offset.number c.args.offsets.now)) (sym stays)
    passes)) in
    (passes_not, search rules)

pub returns-clause-ok : goal.returns-clause-ok
returns-clause-ok g c =
    subst (PassesWhole g.J.Judge.accepts (numbers_of g.O.Offset.number c.args.offsets.now))
    (ap (λ r. r.bytes) c.is_ascii_window.ensures.counted) (c.if-not-is_cut_text.ensures.answer.0 refl)

pub returns-then-not-is_cut_text-clause-rejected : goal.returns-then-not-is_cut_text-clause-rejected
returns-then-not-is_cut_text-clause-rejected g c = λ _ none.
    c.if-not-is_cut_text.ensures.rejected (subst (λ r.
    ¬ g.J.Judge.accepts (window_of (numbers_of g.O.Offset.number c.args.offsets.now) r.bytes))
    (sym c.is_ascii_window.ensures.counted) none) ∙ ap after_whole_test c.is_ascii_window.ensures.counted

pub returns-clause-rejected : goal.returns-clause-rejected
returns-clause-rejected g c = λ _ none.
    c.if-not-is_cut_text.ensures.rejected (subst (λ r.
    ¬ g.J.Judge.accepts (window_of (numbers_of g.O.Offset.number c.args.offsets.now) r.bytes))
    (sym c.is_ascii_window.ensures.counted) none) ∙ ap after_whole_test c.is_ascii_window.ensures.counted
