use Rattle.std.proofs.Common.{◌∙◌, Some, length, refl}
use Rattle.std.proofs.lemmas.Slice.Zip.{AllZip-long}
use Rattle.example_record_batch.specs.AnyArrays.{nulls_of, number, slot_count, text}
use Rattle.example_csv.specs.Summary.{count_number, type_name}
use Rattle.example_csv.proofs.SummaryLemmas.{count_of, no-rows}
use Rattle.example_csv.proofs.summary.push_columns.Goals as goal

pub returns-clause-ok : goal.returns-clause-ok
returns-clause-ok c =
    let least = c.in_ok-least_texts.ensures.ok in
    let greatest = c.in_ok-greatest_texts.ensures.ok in (
      refl,
      least.0,
      greatest.0,
      least.1,
      greatest.1,
      rw (
        c.in_ok-push_column-6.ensures.ok,
        c.in_ok-push_column-5.ensures.ok,
        c.in_ok-push_column-4.ensures.ok,
        c.in_ok-push_column-3.ensures.ok,
        c.in_ok-push_column-2.ensures.ok,
        c.in_ok-push_column.ensures.ok,
        c.requires,
        c.in_ok-names.ensures.ok,
        c.in_ok-types.ensures.ok,
        c.in_ok-row_counts.ensures.ok,
        c.in_ok-null_counts.ensures.ok,
        least.2,
        greatest.2,
      ) refl,
    )

pub returns-clause-rows : goal.returns-clause-rows
returns-clause-rows c =
    let columns = c.args.table.now.columns in
    let n = length columns in
    let least = c.in_ok-least_texts.ensures.ok in
    let greatest = c.in_ok-greatest_texts.ensures.ok in
    let one =
    c.in_ok-push_column.ensures.rows n (no-rows _ n c.requires)
    (count_of _ (λ column. text (Some column.name)) columns n c.in_ok-names.ensures.ok refl) in
    let two =
    c.in_ok-push_column-2.ensures.rows n one
    (count_of _ (λ column. text (Some (type_name column.array))) columns n c.in_ok-types.ensures.ok refl) in
    let three =
    c.in_ok-push_column-3.ensures.rows n two
    (count_of _ (λ column. number (Some (count_number (slot_count column.array)))) columns n
    c.in_ok-row_counts.ensures.ok refl)
    in
    let four =
    c.in_ok-push_column-4.ensures.rows n three
    (count_of _ (λ column. number (Some (count_number (nulls_of column.array)))) columns n
    c.in_ok-null_counts.ensures.ok refl)
    in
    let five =
    c.in_ok-push_column-5.ensures.rows n four
    (count_of _ text least.0 n least.2 (AllZip-long _ _ _ least.1)) in
    c.in_ok-push_column-6.ensures.rows n five
    (count_of _ text greatest.0 n greatest.2 (AllZip-long _ _ _ greatest.1))
