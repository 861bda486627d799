use Rattle.std.proofs.Common.{◌≡◌, ◌∙◌, None, Some, ◌+◌, drop, map, refl, string_bytes, sym, take}
use Rattle.std.proofs.lemmas.List.{map-append}
use Rattle.std.proofs.lemmas.List.Elements.{All-push}
use Rattle.example_record_batch.specs.AnyArrays.{slot_count}
use Rattle.example_record_batch.specs.Batches.{column_of, named}
use Rattle.example_csv.proofs.SelectLemmas.{columns-more, known-more, texts-more, texts-split, unknown-found}
use Rattle.example_csv.proofs.select.named_columns.Goals as goal

pub returns-in-None-clause-err : goal.returns-in-None-clause-err
returns-in-None-clause-err c =
    let names = c.args.names.now in
    let i = c.loop-name.name-index in
    let name = c.name-item.result in
    let none : column_of c.args.table.now (string_bytes name) ≡ None =
    rw c.as_str.ensures.value at (sym c.in-None.ensures.value) in
    let found =
    unknown-found c.args.table.now (map string_bytes (take i names)) (map string_bytes (drop (i + 1) names))
    (string_bytes name) c.loop-name.invariant.0 none in
    rw (texts-split names i name c.loop-name-test.true c.name-item.is, found, c.in_ok-clone-in-None.ensures.cases) refl

pub loop-name-preserved : goal.loop-name-preserved
loop-name-preserved c =
    let name = c.name-item.result in
    let array = c.in-Some.array.now in
    let before = map string_bytes (take c.loop-name.name-index c.args.names.now) in
    let found : column_of c.args.table.now (string_bytes name) ≡ Some array =
    rw c.as_str.ensures.value at (sym c.in-Some.ensures.value) in
    let more = texts-more c.args.names.now c.loop-name.name-index name c.loop-name-test.true c.name-item.is in
    let known = known-more c.args.table.now before (string_bytes name) array c.loop-name.invariant.0 found in
    let columns = columns-more c.args.table.now before (string_bytes name) array found in
    let items = c.in_ok-push-in-Some.ensures.items in
    let same = c.in_ok-array-in-Some.ensures.ok in (
      rw more known,
      rw (items, map-append, c.loop-name.invariant.1, c.in_ok-name-in-Some.ensures.cases, same, more, columns) refl,
      rw items
          (All-push (λ field. slot_count field.array ≡ c.args.table.now.rows) _ _ c.loop-name.invariant.2 (rw same c.in-Some.ensures.rows)),
    )
