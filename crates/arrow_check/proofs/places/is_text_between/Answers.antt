use Rattle.std.proofs.Common.{subst, IsTrue, ◌↔◌}
use Rattle.arrow_check.specs.Utf8.{IsWellFormed}
use Rattle.arrow_check.proofs.PlaceLemmas.{is-text, range-within}
use Rattle.arrow_check.proofs.places.is_text_between.Goals as goal

pub returns : goal.returns
returns c =
    subst (λ bytes. IsTrue c.is_utf8.result ↔ IsWellFormed bytes)
    (range-within c.args.bytes.now c.args.start c.args.end c.min.result c.min-2.result c.min.ensures
    c.min-2.ensures c.requires)
    (is-text c.is_utf8.result _ c.is_utf8.ensures)
