use Rattle.std.proofs.Common.{◌≡◌, ◌≢◌, ◌+◌, ◌∷◌, ◌++◌, ◌∙◌, [], ℕ, List, ap, map, sym, zero-add}
use Rattle.std.specs.Io.KnownBytes.{Appends}
use Rattle.std.specs.List.{flat_map, range_with_len}
use Rattle.std.proofs.lemmas.List.{flat_map_more}
use Rattle.std.proofs.lemmas.List.FromFn.{map-range_with_len_more}
use Rattle.csv.specs.Writing.{default_writer, row_text, text_written, writer_setup}
use Rattle.csv.specs.declared.writer.QuoteStyle.TheVariants as style
use Rattle.csv.proofs.WriteFacts.{appends-more}
use Rattle.example_csv.specs.Text.{names_of, record_at}
use Rattle.example_csv.proofs.write_csv.write_records.Goals as goal

-- the text of one row more
one_more : (first : List (List ℕ)) (row : ℕ → List (List ℕ)) (n : ℕ)
    → flat_map (row_text default_writer) (first ∷ map row (range_with_len 0 n)) ++ row_text default_writer (row n)
    ≡ flat_map (row_text default_writer) (first ∷ map row (range_with_len 0 (n + 1)))
one_more first row n =
    flat_map_more (row_text default_writer) (row_text default_writer first) (map row (range_with_len 0 n)) (row n)
    ∙ ap (λ rows. flat_map (row_text default_writer) (first ∷ rows))
    (sym (map-range_with_len_more row 0 n n (zero-add n)))

pub loop-row-preserved : goal.loop-row-preserved
loop-row-preserved g c =
    let loop = c.loop-row.invariant in
    let wrote = c.in_ok-write_byte_record-2.ensures in
    let plain : (writer_setup c.loop-row.writer).style ≢ style.NonNumeric = rw loop.0 (λ e. cc e) in
    let row = rw (loop.0, c.in_ok-fill_row.ensures) at (wrote.bytes loop.1 loop.2 plain) in
    let more = appends-more _ _ _ _ _ loop.3 row in
    (wrote.setup ∙ loop.0, wrote.ended, wrote.clean, rw (one_more (names_of c.args.table.now) (record_at c.args.table.now) c.loop-row.row) at more)
