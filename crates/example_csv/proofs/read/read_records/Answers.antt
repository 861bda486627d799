use Rattle.std.proofs.Common.{◌≡◌, ◌∷◌, ◌++◌, ◌+◌, ◌∙◌, [], ap, arith, false, inl, length, refl, rules, sym, true}
use Rattle.std.proofs.lemmas.List.{length-append}
use Rattle.std.proofs.lemmas.Result.{IfOk-weaker}
use Rattle.csv.specs.Reading.{Reached, default_config, error_kind, strip_bom}
use Rattle.csv.specs.Records.{fields_of}
use Rattle.csv.specs.declared.parser.State.TheVariants as st
use Rattle.csv.proofs.ReadFacts.{rows-end, rows-more}
use Rattle.example_csv.proofs.ReadLemmas.{first-error, next-error, row-refused, weaken-err}
use Rattle.example_csv.proofs.read.read_records.Goals as goal

pub returns-in_err-read_record-clause-err : goal.returns-in_err-read_record-clause-err
unfolding Reached
returns-in_err-read_record-clause-err g c =
    let start = c.requires in
    let why = c.in_err-read_record.ensures.why start.trim start.ready in
    weaken-err c.from_residual.result _ _ c.from_residual.ensures.1 (λ f is. λ text source.
    rw is (first-error g.R.Read.remaining c.args.reader.now c.read_record.new.self text (strip_bom text) start.config
    source (error_kind c.in_err-read_record.field-0.0) start.expected (sym start.state, refl) why))

pub returns-then-not-branch-clause-err : goal.returns-then-not-branch-clause-err
unfolding Reached
returns-then-not-branch-clause-err g c =
    let start = c.requires in
    let gone : c.in_ok-read_record.field-0 ≡ false = search rules in
    let reads = rw gone at (c.in_ok-read_record.ensures.reads start.trim start.ready) in
    λ text source. (
      c.args.reader.now.state,
      strip_bom text,
      (sym start.state, refl),
      rows-end g.R.Read.remaining c.args.reader.now c.read_record.new.self (fields_of c.read_record.new.row)
          default_config (strip_bom text) start.config source reads,
    )

pub loop-height-init : goal.loop-height-init
unfolding Reached
loop-height-init g c =
    let start = c.requires in
    let found : c.in_ok-read_record.field-0 ≡ true = search rules in
    let reads = rw found at (c.in_ok-read_record.ensures.reads start.trim start.ready) in (
      reads.3 ∙ start.trim,
      inl (c.in_ok-read_record.ensures.ready start.trim),
      reads.2 ∙ start.config,
      c.in_ok-read_record.ensures.flexible ∙ start.flexible,
      fields_of c.read_record.new.row,
      [],
      refl,
      (reads.5 refl start.flexible).1,
      c.in_ok-columns.ensures.ok,
      λ text source. rows-more g.R.Read.remaining c.args.reader.now c.read_record.new.self
          (fields_of c.read_record.new.row) default_config st.StartRecord (strip_bom text) (strip_bom text) []
          start.config source (sym start.state, refl) reads,
    )

pub returns-in_err-read_record-2-clause-err : goal.returns-in_err-read_record-2-clause-err
returns-in_err-read_record-2-clause-err g c =
    let (trim, ready, config, flexible, headers, rows, height, expected, built, reached) = c.loop-height.invariant in
    let why = c.in_err-read_record-2.ensures.why trim ready in
    weaken-err c.from_residual-in_err-read_record-2.result _ _ c.from_residual-in_err-read_record-2.ensures.1 (λ f is.
    λ text known.
    let (rest, source, before) = reached text known in
    rw is (next-error g.R.Read.remaining c.loop-height.reader c.read_record-in-loop-height.new.self text rest config
    source headers rows (error_kind c.in_err-read_record-2.field-0.0) expected before why))

pub returns-then-not-branch-2-clause-ok : goal.returns-then-not-branch-2-clause-ok
returns-then-not-branch-2-clause-ok g c =
    let (trim, ready, config, flexible, headers, rows, height, expected, built, reached) = c.loop-height.invariant in
    let gone : c.in_ok-read_record-2.field-0 ≡ false = search rules in
    let reads = rw gone at (c.in_ok-read_record-2.ensures.reads trim ready) in
    IfOk-weaker c.freeze.result _ _ (λ table is. λ text known.
    let (rest, source, before) = reached text known in (
      headers,
      rows,
      (
        c.loop-height.reader.state,
        rest,
        before,
        rows-end g.R.Read.remaining c.loop-height.reader
            c.read_record-in-loop-height.new.self (fields_of c.read_record-in-loop-height.new.row) default_config rest
            config source reads,
      ),
      is,
    )) (c.freeze.ensures.ok headers rows built (sym height))

pub returns-in_err-push_record-clause-err : goal.returns-in_err-push_record-clause-err
returns-in_err-push_record-clause-err g c =
    let (trim, ready, config, flexible, headers, rows, height, expected, built, reached) = c.loop-height.invariant in
    let found : c.in_ok-read_record-2.field-0 ≡ true = search rules in
    let reads = rw found at (c.in_ok-read_record-2.ensures.reads trim ready) in
    let row = fields_of c.read_record-in-loop-height.new.row in
    weaken-err c.from_residual-in_err-push_record.result _ _ c.from_residual-in_err-push_record.ensures.1 (λ f is.
    λ text known.
    let (rest, source, before) = reached text known in
    let (z, at, after) = rows-more g.R.Read.remaining c.loop-height.reader c.read_record-in-loop-height.new.self row
    default_config st.StartRecord (strip_bom text) rest (headers ∷ rows) config source before reads in
    rw is (row-refused text headers rows c.loop-height.columns.items row built
    (c.read_record-in-loop-height.new.self.state, z, after) c.in_err-push_record.field-0.0
    c.in_err-push_record.ensures.err))

pub loop-height-preserved : goal.loop-height-preserved
loop-height-preserved g c =
    let (trim, ready, config, flexible, headers, rows, height, expected, built, reached) = c.loop-height.invariant in
    let found : c.in_ok-read_record-2.field-0 ≡ true = search rules in
    let reads = rw found at (c.in_ok-read_record-2.ensures.reads trim ready) in
    let row = fields_of c.read_record-in-loop-height.new.row in (
      reads.3 ∙ trim,
      inl (c.in_ok-read_record-2.ensures.ready trim),
      reads.2 ∙ config,
      c.in_ok-read_record-2.ensures.flexible ∙ flexible,
      headers,
      rows ++ row ∷ [],
      length-append rows (row ∷ []) ∙ ap (λ n. n + 1) height,
      rw expected at ((reads.5 refl flexible).0),
      c.in_ok-push_record.ensures.ok headers rows built,
      λ text known.
          let (rest, source, before) = reached text known in
          rows-more g.R.Read.remaining c.loop-height.reader c.read_record-in-loop-height.new.self row default_config
          st.StartRecord (strip_bom text) rest (headers ∷ rows) config source before reads,
    )
