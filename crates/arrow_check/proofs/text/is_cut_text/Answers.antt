use Rattle.std.proofs.Common.{ap, refl, subst, sym}
use Rattle.arrow_memory.specs.Offsets.{numbers_of}
use Rattle.arrow_check.specs.Windows.{InnerCutBetween}
use Rattle.arrow_check.proofs.text.is_cut_text.Goals as goal

pub returns-then-is_text_window-clause-answer : goal.returns-then-is_text_window-clause-answer
returns-then-is_text_window-clause-answer g c =
    let numbers = numbers_of g.O.Offset.number c.args.offsets.now in
    let stays = ap (λ r. r.bytes) c.is_text_window.ensures.counted in (
      λ cut. record {
        within = c.requires.within;
        window = c.if-is_text_window.ensures.answer.0 refl;
        inner = subst (InnerCutBetween numbers) stays (c.is_cut_between.ensures.answer.0 cut);
      },
      λ passes. c.is_cut_between.ensures.answer.1 (subst (InnerCutBetween numbers) (sym stays) passes.inner),
    )
