use Rattle.std.proofs.Common.{◌≡◌, ◌∙◌, None, rules, sym}
use Rattle.std.specs.Result.{result_ok}
use Rattle.example_csv.proofs.FieldLemmas.{no-number}
use Rattle.example_csv.proofs.field.number.Goals as goal

pub returns-in_err-value : goal.returns-in_err-value
returns-in_err-value c =
    let none : result_ok c.parse.result ≡ None = search rules in
    c.from_residual.ensures ∙ sym (no-number c.args.field.now c.parse.result c.parse.ensures.value.0 none)
