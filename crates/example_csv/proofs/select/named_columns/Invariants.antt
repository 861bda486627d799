use Rattle.std.proofs.Common.{◌≡◌, None, map, string_bytes, take}
use Rattle.std.specs.List.{filter_map}
use Rattle.example_record_batch.specs.Batches.{HaveRows, named}
use Rattle.example_csv.specs.Selecting.{column_named, unknown_name}
use Rattle.example_csv.proofs.select.named_columns.Given as goal

abbrev pub invariant-loop-name : goal.invariant-loop-name
invariant-loop-name l =
    (unknown_name l.table (map string_bytes (take l.name-index l.names)) ≡ None)
    × (map named l.fields.items ≡ filter_map (column_named l.table) (map string_bytes (take l.name-index l.names)))
    × HaveRows l.fields.items l.table.rows
