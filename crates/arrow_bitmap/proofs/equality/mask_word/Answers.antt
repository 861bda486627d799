use Rattle.std.proofs.Common.{◌+◌, sym, subst}
use Rattle.arrow_bitmap.specs.Masks.{IsValidAt}
use Rattle.arrow_bitmap.proofs.EqualityLemmas.{all-word_bits}
use Rattle.arrow_bitmap.proofs.equality.mask_word.Goals as goal

pub returns-in-None : goal.returns-in-None
returns-in-None c = λ k low.
    (λ _. subst (λ mask. IsValidAt mask (c.args.place + k)) (sym c.in-None.is) tt, λ _. all-word_bits k low)
