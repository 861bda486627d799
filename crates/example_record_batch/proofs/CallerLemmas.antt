-- What proofs of callers cite: which aggregates overflow, for a caller that asks for the group whose sum does not fit.
use Rattle.std.proofs.Common.{◌≡◌, ◌≢◌, ℕ, List, ap, inl, inr, refl}
use Rattle.std.specs.Prelude.{IsSome, not}
use Rattle.std.specs.Int.{w64}
use Rattle.dethrugn.specs.Aggregates.{sum_all}
use Rattle.dethrugn.specs.Error.{Error}
use Rattle.dethrugn.specs.Error.TheVariants as error
use Rattle.dethrugn.specs.Groups.{group_values}
use Rattle.dethrugn.specs.NativeArithmetics.{fits_signed}
use Rattle.example_record_batch.specs.declared.any.AnyArray.{AnyArray}
use Rattle.example_record_batch.specs.declared.any.AnyArray.TheVariants.{Int64, Boolean, Binary, Utf8}
use Rattle.example_record_batch.specs.declared.any.group.Aggregate.{Aggregate}
use Rattle.example_record_batch.specs.declared.any.group.Aggregate.TheVariants.{Sum, Min, Max}
use Rattle.example_record_batch.specs.Grouping.{AggregateFails, overflowing_group}
use Rattle.example_record_batch.proofs.OverflowLemmas.{some-found}
-- An array has as many cells as slots.
pub use Rattle.example_record_batch.proofs.LawLemmas.{cell-count}

no_memory : error.Overflow ≡ error.OutOfMemory → ⊥
no_memory e = cc e

-- an aggregate that overflows is a sum, and there is a group whose sum does not fit
pub overflow-found : (aggregate : Aggregate) (array : AnyArray) (numbers : List ℕ) (groups : ℕ)
    → AggregateFails aggregate array numbers groups error.Overflow
    → (aggregate ≡ Sum) × IsSome (overflowing_group array numbers groups)
overflow-found Sum (Int64 column) numbers groups (inl e) = absurd (no_memory e)
overflow-found Sum (Int64 column) numbers groups (inr (is, (g, low, fails))) = (
  refl,
  some-found (λ g. not (fits_signed w64 (sum_all (group_values column numbers g)))) g groups low (ap not fails),
)
overflow-found Sum (Boolean column) numbers groups e = absurd (no_memory e)
overflow-found Sum (Binary column) numbers groups e = absurd (no_memory e)
overflow-found Sum (Utf8 column) numbers groups e = absurd (no_memory e)
overflow-found Min array numbers groups e = absurd (no_memory e)
overflow-found Max array numbers groups e = absurd (no_memory e)

-- without an overflow an allocation failed
pub memory-failed : (aggregate : Aggregate) (array : AnyArray) (numbers : List ℕ) (groups : ℕ) (e : Error)
    → AggregateFails aggregate array numbers groups e → e ≢ error.Overflow → e ≡ error.OutOfMemory
memory-failed Sum (Int64 column) numbers groups e (inl is) other = is
memory-failed Sum (Int64 column) numbers groups e (inr (is, why)) other = absurd (other is)
memory-failed Sum (Boolean column) numbers groups e is other = is
memory-failed Sum (Binary column) numbers groups e is other = is
memory-failed Sum (Utf8 column) numbers groups e is other = is
memory-failed Min array numbers groups e is other = is
memory-failed Max array numbers groups e is other = is
