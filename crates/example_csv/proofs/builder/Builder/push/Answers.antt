use Rattle.std.proofs.Common.{[], ap, ◌∙◌}
use Rattle.dethrugn.specs.Column.{append_slot}
use Rattle.example_csv.proofs.BuilderLemmas.{grows-boolean, grows-int64, grows-text, grows-undeclared}
use Rattle.example_csv.proofs.builder.Builder.push.Goals as goal

pub returns-in_ok-push-in-Utf8-clause-ok : goal.returns-in_ok-push-in-Utf8-clause-ok
returns-in_ok-push-in-Utf8-clause-ok c =
    rw c.in-Utf8.is (grows-text c.in-Utf8.builder c.push-in-Utf8.new.self c.args.field.now
    (c.in_ok-push-in-Utf8.ensures.ok.1 ∙ ap (append_slot [] c.in-Utf8.builder) c.text-in-Utf8.ensures))

pub returns-in_ok-push-in-Undeclared-clause-ok : goal.returns-in_ok-push-in-Undeclared-clause-ok
returns-in_ok-push-in-Undeclared-clause-ok c =
    rw c.in-Undeclared.is (grows-undeclared c.in-Undeclared.builder c.push-in-Undeclared.new.self c.args.field.now
    (c.in_ok-push-in-Undeclared.ensures.ok.1 ∙ ap (append_slot [] c.in-Undeclared.builder) c.text-in-Undeclared.ensures))
