use Rattle.example_csv.proofs.summary.summary.Goals as goal

pub returns-in_err-try_new-clause-err : goal.returns-in_err-try_new-clause-err
returns-in_err-try_new-clause-err c = absurd (c.in_err-try_new.ensures.err.0
    (rw c.column_count.ensures c.in_ok-push_columns.ensures.rows))

pub returns-clause-ok : goal.returns-clause-ok
returns-clause-ok c = rw (c.in_ok-try_new.ensures.ok.1, c.column_count.ensures) c.in_ok-push_columns.ensures.ok
