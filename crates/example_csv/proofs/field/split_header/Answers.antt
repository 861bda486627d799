use Rattle.std.proofs.Common.{false, refl, sym}
use Rattle.std.specs.Prelude.{codes}
use Rattle.std.proofs.lemmas.Str.Pattern.{ends_text}
use Rattle.example_csv.proofs.field.split_header.Goals as goal

pub returns-in_default-strip_suffix-2-clause-name : goal.returns-in_default-strip_suffix-2-clause-name
returns-in_default-strip_suffix-2-clause-name c = rw (
  sym (ends_text false (codes ":i64") c.args.header.now c.in_default.ensures.cases),
  sym (ends_text false (codes ":bool") c.args.header.now c.in_default-strip_suffix.ensures.cases),
  sym (ends_text false (codes ":text") c.args.header.now c.in_default-strip_suffix-2.ensures.cases),
) refl

pub returns-in_default-strip_suffix-2-clause-declared : goal.returns-in_default-strip_suffix-2-clause-declared
returns-in_default-strip_suffix-2-clause-declared c = rw (
  sym (ends_text false (codes ":i64") c.args.header.now c.in_default.ensures.cases),
  sym (ends_text false (codes ":bool") c.args.header.now c.in_default-strip_suffix.ensures.cases),
  sym (ends_text false (codes ":text") c.args.header.now c.in_default-strip_suffix-2.ensures.cases),
) refl
