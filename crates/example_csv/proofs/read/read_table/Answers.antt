use Rattle.std.proofs.Common.{◌∙◌, ap, inr}
use Rattle.std.specs.Prelude.{option_map}
use Rattle.std.proofs.lemmas.Result.{IfErr-weaker, IfOk-weaker}
use Rattle.csv.specs.Reading.{strip_bom}
use Rattle.example_csv.proofs.ReadLemmas.{if-some}
use Rattle.example_csv.proofs.read.read_table.Goals as goal

pub read_records-requires : goal.read_records-requires
read_records-requires g c =
    let fr = c.from_reader-reader.ensures in
    let e = c.has_headers.ensures in record {
      trim = rw e at fr.trim ∙ c.new.ensures.trim;
      ready = inr (inr (rw e at fr.has_headers, fr.headers));
      config = rw e at fr.config ∙ c.new.ensures.config;
      flexible = rw e at fr.flexible ∙ c.new.ensures.flexible;
      expected = fr.expected;
      state = fr.state;
    }

pub returns-clause-ok : goal.returns-clause-ok
returns-clause-ok g c =
    let fr = c.from_reader-reader.ensures in
    IfOk-weaker c.read_records.result _ _ (λ table is. if-some _ _ (λ text known.
    is text (fr.source ∙ ap (option_map strip_bom) known))) c.read_records.ensures.ok

pub returns-clause-err : goal.returns-clause-err
returns-clause-err g c =
    let fr = c.from_reader-reader.ensures in
    IfErr-weaker c.read_records.result _ _ (λ e is. if-some _ _ (λ text known.
    is text (fr.source ∙ ap (option_map strip_bom) known))) c.read_records.ensures.err
