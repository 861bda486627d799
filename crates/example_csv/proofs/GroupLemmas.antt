-- Lemmas about aggregates of groups.
use Rattle.std.proofs.Common.{◌≡◌, ◌∷◌, ◌++◌, ◌+◌, ◌<◌, [], ℕ, List, Some, ap, get_or, length, map, slice_get, take}
use Rattle.std.specs.List.{AllZip}
use Rattle.std.proofs.lemmas.List.{map-append, take_more}
use Rattle.std.proofs.lemmas.Slice.Zip.{all_zipped_more}
use Rattle.dethrugn.specs.Types.{refusal}
use Rattle.example_record_batch.specs.declared.batch.Field.{Field}
use Rattle.example_record_batch.specs.AnyArrays.{slot_count}
use Rattle.example_record_batch.specs.Batches.{Batch, Named, named}
use Rattle.example_csv.specs.Builders.{IsOutOfMemory}
use Rattle.example_csv.specs.declared.error.Error.{Error}
use Rattle.example_csv.specs.declared.error.Error.TheVariants as error
use Rattle.example_csv.specs.declared.group.Aggregation.{Aggregation}
use Rattle.example_csv.specs.Grouping.{CannotAggregate, CannotAggregateAll, IsAggregated, aggregated_array}
use Rattle.example_csv.specs.Selecting.{Explains}

-- the column of one aggregate more
pub aggregates-more : (batch : Batch) (numbers : List ℕ) (keys : Named) (asked : List Aggregation) (i : ℕ)
    (one : Aggregation) (fields after : List Field) (field : Field) → i < length asked → one ≡ get_or asked i one
    → AllZip (IsAggregated batch numbers (slot_count keys.array)) (take i asked) (map named fields)
    → IsAggregated batch numbers (slot_count keys.array) one (named field) → after ≡ fields ++ field ∷ []
    → AllZip (IsAggregated batch numbers (slot_count keys.array)) (take (i + 1) asked) (map named after)
aggregates-more batch numbers keys asked i one fields after field within e zips fact push =
    rw (push, map-append named fields (field ∷ []), take_more asked i one within, ← e)
    (all_zipped_more (IsAggregated batch numbers (slot_count keys.array)) (take i asked) (map named fields) one (named field)
    zips fact)

-- without the column of an aggregate there is no aggregate
pub no-aggregate : (batch : Batch) (numbers : List ℕ) (keys : Named) (one : Aggregation) (e : Error)
    → Explains (aggregated_array batch one) e → CannotAggregate batch numbers keys one e
no-aggregate batch numbers keys one (error.Arrow e) h = h
no-aggregate batch numbers keys one (error.Csv e) h = h
no-aggregate batch numbers keys one (error.Io e) h = h
no-aggregate batch numbers keys one error.OutOfMemory h = h
no-aggregate batch numbers keys one error.NoHeader h = h
no-aggregate batch numbers keys one (error.Field byte column wanted) h = h
no-aggregate batch numbers keys one (error.UnknownColumn name) h = h
no-aggregate batch numbers keys one (error.NotTruth name) h = h
no-aggregate batch numbers keys one (error.NotNumbers name) h = h
no-aggregate batch numbers keys one (error.SumOverflow overflow) h = absurd h

-- if an allocation failed there is no aggregate
pub no-memory : (batch : Batch) (numbers : List ℕ) (keys : Named) (one : Aggregation) (e : Error) → IsOutOfMemory e
    → CannotAggregate batch numbers keys one e
no-memory batch numbers keys one (error.Arrow e) h = ap refusal h
no-memory batch numbers keys one error.OutOfMemory h = tt
no-memory batch numbers keys one (error.Csv e) h = absurd h
no-memory batch numbers keys one (error.Io e) h = absurd h
no-memory batch numbers keys one error.NoHeader h = absurd h
no-memory batch numbers keys one (error.Field byte column wanted) h = absurd h
no-memory batch numbers keys one (error.UnknownColumn name) h = absurd h
no-memory batch numbers keys one (error.NotTruth name) h = absurd h
no-memory batch numbers keys one (error.NotNumbers name) h = absurd h
no-memory batch numbers keys one (error.SumOverflow overflow) h = absurd h

-- without one aggregate there are not all
pub not-all-aggregates : (batch : Batch) (numbers : List ℕ) (keys : Named) (asked : List Aggregation) (i : ℕ)
    (one : Aggregation) (fields : List Named) (e : Error) → slice_get asked i ≡ Some one
    → AllZip (IsAggregated batch numbers (slot_count keys.array)) (take i asked) fields
    → CannotAggregate batch numbers keys one e
    → CannotAggregateAll batch numbers keys asked e
not-all-aggregates batch numbers keys asked i one fields error.OutOfMemory at h why = tt
not-all-aggregates batch numbers keys asked i one fields (error.Arrow e) at h why = (i, one, at, fields, h, why)
not-all-aggregates batch numbers keys asked i one fields (error.Csv e) at h why = (i, one, at, fields, h, why)
not-all-aggregates batch numbers keys asked i one fields (error.Io e) at h why = (i, one, at, fields, h, why)
not-all-aggregates batch numbers keys asked i one fields error.NoHeader at h why = (i, one, at, fields, h, why)
not-all-aggregates batch numbers keys asked i one fields (error.Field byte column wanted) at h why =
    (i, one, at, fields, h, why)
not-all-aggregates batch numbers keys asked i one fields (error.UnknownColumn name) at h why = (i, one, at, fields, h, why)
not-all-aggregates batch numbers keys asked i one fields (error.NotTruth name) at h why = (i, one, at, fields, h, why)
not-all-aggregates batch numbers keys asked i one fields (error.NotNumbers name) at h why = (i, one, at, fields, h, why)
not-all-aggregates batch numbers keys asked i one fields (error.SumOverflow overflow) at h why =
    (i, one, at, fields, h, why)
