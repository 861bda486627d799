use Rattle.std.proofs.Common.{false, refl, sym}
use Rattle.std.specs.Prelude.{codes}
use Rattle.std.proofs.lemmas.Str.Pattern.{ends_text}
use Rattle.example_csv.proofs.sort.split_key.Goals as goal

pub returns-in_default-strip_suffix-clause-column : goal.returns-in_default-strip_suffix-clause-column
returns-in_default-strip_suffix-clause-column c = rw (
  sym (ends_text false (codes ":desc") c.args.text.now c.in_default.ensures.cases),
  sym (ends_text false (codes ":asc") c.args.text.now c.in_default-strip_suffix.ensures.cases),
) refl

pub returns-in_default-strip_suffix-clause-descending : goal.returns-in_default-strip_suffix-clause-descending
returns-in_default-strip_suffix-clause-descending c = rw (
  sym (ends_text false (codes ":desc") c.args.text.now c.in_default.ensures.cases),
  sym (ends_text false (codes ":asc") c.args.text.now c.in_default-strip_suffix.ensures.cases),
) refl
