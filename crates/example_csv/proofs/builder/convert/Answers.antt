use Rattle.std.proofs.Common.{◌≡◌, ◌∙◌, Bool, List, Some, false, length, map, rules, sym, ℕ}
use Rattle.std.specs.Prelude.{count_by, is_some, not}
use Rattle.std.specs.List.{list_all}
use Rattle.dethrugn.specs.Column.{marks_of, slots_of}
use Rattle.example_csv.specs.Fields.{parsed_number, slot_as, truth_of}
use Rattle.example_csv.proofs.ConvertLemmas.{null-array, number-array, text-array, truth-array}
use Rattle.example_csv.proofs.builder.convert.Goals as goal

pub returns-then-null_count-len-clause-ok : goal.returns-then-null_count-len-clause-ok
returns-then-null_count-len-clause-ok c = λ fields e. null-array c.args.column fields e
    (sym c.null_count.ensures ∙ c.if-null_count-len.true ∙ c.len.ensures)

pub returns-in-Some-clause-ok : goal.returns-in-Some-clause-ok
returns-in-Some-clause-ok c = λ fields e.
    number-array c.args.column fields c.in-Some.numbers c.in_ok-freeze.field-0 e
    (λ n. c.if-null_count-len.false (c.null_count.ensures ∙ n ∙ sym c.len.ensures))
    (rw c.in-Some.is at c.in_ok-numbers.ensures.ok) c.in_ok-freeze.ensures.ok

pub returns-in-Some-2-clause-ok : goal.returns-in-Some-2-clause-ok
returns-in-Some-2-clause-ok c = λ fields e.
    truth-array c.args.column fields c.in-Some-2.truths c.in_ok-freeze-2.field-0 e
    (λ n. c.if-null_count-len.false (c.null_count.ensures ∙ n ∙ sym c.len.ensures))
    (rw c.in_default.is at c.in_ok-numbers.ensures.ok)
    (rw c.in-Some-2.is at c.in_ok-truths.ensures.ok) c.in_ok-freeze-2.ensures.ok

pub returns-clause-ok : goal.returns-clause-ok
returns-clause-ok c = λ fields e.
    text-array c.args.column fields e
    (λ n. c.if-null_count-len.false (c.null_count.ensures ∙ n ∙ sym c.len.ensures))
    (rw c.in_default.is at c.in_ok-numbers.ensures.ok)
    (rw c.in_default-2.is at c.in_ok-truths.ensures.ok)
