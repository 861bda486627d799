-- The steps from a table to the rows and columns that options select, in order.
use Rattle.std.specs.Prelude.{◌≡◌, ◌⊎◌, Ok}
use Rattle.example_record_batch.specs.Batches.{Batch}
use Rattle.example_csv.specs.declared.error.Error.{Error}
use Rattle.example_csv.specs.declared.options.Options.{Options}
use Rattle.example_csv.specs.Grouping.{CannotGroup, IsGroupedBy}
use Rattle.example_csv.specs.Selecting.{Explains, kept_rows, shown_part}
use Rattle.example_csv.specs.Sorting.{CannotSort, IsSortedBy}

-- the rows that `--where` keeps, by the groups of `--group`
abbrev pub IsGrouped : Options → Batch → Batch → Type 0
IsGrouped options table grouped = (kept : Batch) × (kept_rows options table ≡ Ok kept)
    × IsGroupedBy options.group kept grouped

-- these rows in the order of `--sort`
abbrev pub IsOrdered : Options → Batch → Batch → Type 0
IsOrdered options table sorted = (grouped : Batch) × IsGrouped options table grouped
    × IsSortedBy options.sort grouped sorted

-- of these rows, the columns and the first rows that options select
abbrev pub IsSelected : Options → Batch → Batch → Type 0
IsSelected options table shown =
    (sorted : Batch) × IsOrdered options table sorted × (shown_part options sorted ≡ Ok shown)

-- why a step makes nothing
unfoldable pub CannotSelect : Options → Batch → Error → Type 0
CannotSelect options table e = Explains (kept_rows options table) e
    ⊎ ((kept : Batch) × (kept_rows options table ≡ Ok kept) × CannotGroup options.group kept e)
    ⊎ ((grouped : Batch) × IsGrouped options table grouped × CannotSort options.sort grouped e)
    ⊎ ((sorted : Batch) × IsOrdered options table sorted × Explains (shown_part options sorted) e)
