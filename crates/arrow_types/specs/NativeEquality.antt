-- Equality of the native types of several fields, as a test: each field is the same.
use Rattle.std.specs.Prelude.{◌≡◌, ◌&&◌, ◌==◌}
use Rattle.std.specs.Ordering.{int_eq}
use Rattle.std.specs.Bool.{Decides}
use Rattle.std.specs.Cmp.{signed_Decides, unsigned_Decides}
use Rattle.std.proofs.Common.{ap}
use Rattle.arrow_types.specs.Decisions.{both-Decides}
use Rattle.arrow_types.specs.declared.native_type.i256.{i256}
use Rattle.arrow_types.specs.declared.native_type.days_ms.{days_ms}
use Rattle.arrow_types.specs.declared.native_type.months_days_ns.{months_days_ns}

-- equality of both halves decides equality of the integers
pub i256-Decides : (x y : i256) → Decides (int_eq x.0 y.0 && (x.1 == y.1)) (x ≡ y)
i256-Decides x y =
    let d = both-Decides (signed_Decides x.0 y.0) (unsigned_Decides x.1 y.1) in (
      λ h. let p = d.0 h in λ i. record { 0 = p.0 i; 1 = p.1 i },
      λ e.
          d.1 (ap (λ v. v.0) e, ap (λ v. v.1) e),
    )

-- equality of days and milliseconds decides equality of the intervals
pub days_ms-Decides : (x y : days_ms) → Decides (int_eq x.0 y.0 && int_eq x.1 y.1) (x ≡ y)
days_ms-Decides x y =
    let d = both-Decides (signed_Decides x.0 y.0) (signed_Decides x.1 y.1) in (
      λ h. let p = d.0 h in λ i. record { 0 = p.0 i; 1 = p.1 i },
      λ e.
          d.1 (ap (λ v. v.0) e, ap (λ v. v.1) e),
    )

-- equality of months, days and nanoseconds decides equality of the intervals
pub months_days_ns-Decides : (x y : months_days_ns)
    → Decides (int_eq x.0 y.0 && (int_eq x.1 y.1 && int_eq x.2 y.2)) (x ≡ y)
months_days_ns-Decides x y =
    let d = both-Decides (signed_Decides x.0 y.0) (both-Decides (signed_Decides x.1 y.1) (signed_Decides x.2 y.2)) in (
      λ h. let p = d.0 h in λ i. record { 0 = p.0 i; 1 = p.1.0 i; 2 = p.1.1 i },
      λ e.
          d.1 (ap (λ v. v.0) e, (ap (λ v. v.1) e, ap (λ v. v.2) e)),
    )
