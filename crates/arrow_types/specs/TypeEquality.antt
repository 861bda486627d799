-- Whether two logical types are the same, as a test: what `==` of data types answers.
use Rattle.std.specs.Prelude.{◌≡◌, ℕ, List, Option, None, Some, Bool, true, false, ◌&&◌, ◌==◌, bytes_eq, is_some}
use Rattle.std.specs.Prelude.{unwrap_or, refl}
use Rattle.std.specs.Bool.{Decides}
use Rattle.std.specs.Cmp.{unsigned_Decides}
use Rattle.std.specs.Cmp.Lexicographic.{pointwise, pointwise_decides}
use Rattle.std.specs.Option.{option_eq}
use Rattle.std.proofs.Common.{zero, suc, sym, ap, ◌∙◌, true≢false}
use Rattle.std.proofs.lemmas.Slice.Eq.{bytes_eq-Decides}
use Rattle.arrow_types.specs.Decisions.{place-Decides, both-Decides}
use Rattle.arrow_types.specs.declared.units.IntervalUnit.{IntervalUnit}
use Rattle.arrow_types.specs.declared.units.IntervalUnit.TheVariants as interval_unit
use Rattle.arrow_types.specs.declared.units.TimeUnit.{TimeUnit}
use Rattle.arrow_types.specs.declared.units.TimeUnit.TheVariants as time_unit
use Rattle.arrow_types.specs.Types.{Base, Extension, LogicalType, boolean, int8, int16, int32, int64, uint8, uint16}
use Rattle.arrow_types.specs.Types.{uint32, uint64, date32, date64, time32, time64, timestamp, duration, interval}
use Rattle.arrow_types.specs.Types.{decimal, decimal256, binary, large_binary, utf8, large_utf8}

-- the index of a unit of time, and the unit at an index
time_unit_place : TimeUnit → ℕ
time_unit_place time_unit.Second = 0
time_unit_place time_unit.Millisecond = 1
time_unit_place time_unit.Microsecond = 2
time_unit_place time_unit.Nanosecond = 3

time_unit_at : ℕ → TimeUnit
time_unit_at zero = time_unit.Second
time_unit_at (suc zero) = time_unit.Millisecond
time_unit_at (suc (suc zero)) = time_unit.Microsecond
time_unit_at (suc (suc (suc n))) = time_unit.Nanosecond

time_unit_again : (u : TimeUnit) → time_unit_at (time_unit_place u) ≡ u
unfolding time_unit_place time_unit_at
time_unit_again time_unit.Second = refl
time_unit_again time_unit.Millisecond = refl
time_unit_again time_unit.Microsecond = refl
time_unit_again time_unit.Nanosecond = refl

same_time_unit : TimeUnit → TimeUnit → Bool
same_time_unit t u = time_unit_place t == time_unit_place u

same_time_unit-Decides : (t u : TimeUnit) → Decides (same_time_unit t u) (t ≡ u)
unfolding same_time_unit
same_time_unit-Decides = place-Decides time_unit_place time_unit_at time_unit_again

-- the index of a unit of intervals, and the unit at an index
interval_unit_place : IntervalUnit → ℕ
interval_unit_place interval_unit.YearMonth = 0
interval_unit_place interval_unit.DayTime = 1
interval_unit_place interval_unit.MonthDayNano = 2

interval_unit_at : ℕ → IntervalUnit
interval_unit_at zero = interval_unit.YearMonth
interval_unit_at (suc zero) = interval_unit.DayTime
interval_unit_at (suc (suc n)) = interval_unit.MonthDayNano

interval_unit_again : (u : IntervalUnit) → interval_unit_at (interval_unit_place u) ≡ u
unfolding interval_unit_place interval_unit_at
interval_unit_again interval_unit.YearMonth = refl
interval_unit_again interval_unit.DayTime = refl
interval_unit_again interval_unit.MonthDayNano = refl

same_interval_unit : IntervalUnit → IntervalUnit → Bool
same_interval_unit t u = interval_unit_place t == interval_unit_place u

same_interval_unit-Decides : (t u : IntervalUnit) → Decides (same_interval_unit t u) (t ≡ u)
unfolding same_interval_unit
same_interval_unit-Decides = place-Decides interval_unit_place interval_unit_at interval_unit_again

-- are the two optional texts the same?
abbrev same_text : Option (List ℕ) → Option (List ℕ) → Bool
same_text = option_eq bytes_eq

same_text-Decides : (s t : Option (List ℕ)) → Decides (same_text s t) (s ≡ t)
same_text-Decides None None = (λ e. refl, λ e. refl)
same_text-Decides None (Some t) = (λ e. absurd (true≢false (sym e)), λ e. ap is_some e)
same_text-Decides (Some s) None = (λ e. absurd (true≢false (sym e)), λ e. sym (ap is_some e))
same_text-Decides (Some s) (Some t) = (
  λ e. ap (λ x. Some x) ((bytes_eq-Decides s t).0 e),
  λ e.
      (bytes_eq-Decides s t).1 (ap (λ o. unwrap_or o s) e),
)

-- are the two base types the same in every part?
same_base : Base → Base → Bool
same_base boolean boolean = true
same_base int8 int8 = true
same_base int16 int16 = true
same_base int32 int32 = true
same_base int64 int64 = true
same_base uint8 uint8 = true
same_base uint16 uint16 = true
same_base uint32 uint32 = true
same_base uint64 uint64 = true
same_base date32 date32 = true
same_base date64 date64 = true
same_base (time32 t) (time32 u) = same_time_unit t u
same_base (time64 t) (time64 u) = same_time_unit t u
same_base (timestamp t y) (timestamp u z) = same_time_unit t u && same_text y z
same_base (duration t) (duration u) = same_time_unit t u
same_base (interval t) (interval u) = same_interval_unit t u
same_base (decimal p s) (decimal q t) = (p == q) && (s == t)
same_base (decimal256 p s) (decimal256 q t) = (p == q) && (s == t)
same_base binary binary = true
same_base large_binary large_binary = true
same_base utf8 utf8 = true
same_base large_utf8 large_utf8 = true
same_base _ _ = false

same_base_itself : (b : Base) → same_base b b ≡ true
unfolding same_base
same_base_itself boolean = refl
same_base_itself int8 = refl
same_base_itself int16 = refl
same_base_itself int32 = refl
same_base_itself int64 = refl
same_base_itself uint8 = refl
same_base_itself uint16 = refl
same_base_itself uint32 = refl
same_base_itself uint64 = refl
same_base_itself date32 = refl
same_base_itself date64 = refl
same_base_itself (time32 t) = (same_time_unit-Decides t t).1 refl
same_base_itself (time64 t) = (same_time_unit-Decides t t).1 refl
same_base_itself (timestamp t y) = (both-Decides (same_time_unit-Decides t t) (same_text-Decides y y)).1 (refl, refl)
same_base_itself (duration t) = (same_time_unit-Decides t t).1 refl
same_base_itself (interval t) = (same_interval_unit-Decides t t).1 refl
same_base_itself (decimal p s) = (both-Decides (unsigned_Decides p p) (unsigned_Decides s s)).1 (refl, refl)
same_base_itself (decimal256 p s) = (both-Decides (unsigned_Decides p p) (unsigned_Decides s s)).1 (refl, refl)
same_base_itself binary = refl
same_base_itself large_binary = refl
same_base_itself utf8 = refl
same_base_itself large_utf8 = refl

same_base_means : (a b : Base) → same_base a b ≡ true → a ≡ b
unfolding same_base
same_base_means boolean boolean h = refl
same_base_means int8 int8 h = refl
same_base_means int16 int16 h = refl
same_base_means int32 int32 h = refl
same_base_means int64 int64 h = refl
same_base_means uint8 uint8 h = refl
same_base_means uint16 uint16 h = refl
same_base_means uint32 uint32 h = refl
same_base_means uint64 uint64 h = refl
same_base_means date32 date32 h = refl
same_base_means date64 date64 h = refl
same_base_means (time32 t) (time32 u) h = ap time32 ((same_time_unit-Decides t u).0 h)
same_base_means (time64 t) (time64 u) h = ap time64 ((same_time_unit-Decides t u).0 h)
same_base_means (timestamp t y) (timestamp u z) h = let e =
    (both-Decides (same_time_unit-Decides t u) (same_text-Decides y z)).0 h in λ i. timestamp (e.0 i) (e.1 i)
same_base_means (duration t) (duration u) h = ap duration ((same_time_unit-Decides t u).0 h)
same_base_means (interval t) (interval u) h = ap interval ((same_interval_unit-Decides t u).0 h)
same_base_means (decimal p s) (decimal q t) h = let e =
    (both-Decides (unsigned_Decides p q) (unsigned_Decides s t)).0 h in λ i. decimal (e.0 i) (e.1 i)
same_base_means (decimal256 p s) (decimal256 q t) h = let e =
    (both-Decides (unsigned_Decides p q) (unsigned_Decides s t)).0 h in λ i. decimal256 (e.0 i) (e.1 i)
same_base_means binary binary h = refl
same_base_means large_binary large_binary h = refl
same_base_means utf8 utf8 h = refl
same_base_means large_utf8 large_utf8 h = refl
same_base_means _ _ h = absurd (true≢false (sym h))

same_base-Decides : (a b : Base) → Decides (same_base a b) (a ≡ b)
same_base-Decides a b = (same_base_means a b, λ e. ap (same_base a) (sym e) ∙ same_base_itself a)

-- are the two extensions the same?
same_extension : Extension → Extension → Bool
same_extension e f = bytes_eq e.name f.name && same_text e.metadata f.metadata

same_extension-Decides : (e f : Extension) → Decides (same_extension e f) (e ≡ f)
unfolding same_extension
same_extension-Decides e f =
    let d = both-Decides (bytes_eq-Decides e.name f.name) (same_text-Decides e.metadata f.metadata) in (
      λ h. let p = d.0 h in λ i. record { name = p.0 i; metadata = p.1 i },
      λ p.
          d.1 (ap (λ x. x.name) p, ap (λ x. x.metadata) p),
    )

-- are the two logical types the same in every part?
pub same_type : LogicalType → LogicalType → Bool
same_type t u = pointwise same_extension t.extensions u.extensions && same_base t.base u.base

pub same_type-Decides : (t u : LogicalType) → Decides (same_type t u) (t ≡ u)
unfolding same_type
same_type-Decides t u =
    let d = both-Decides (pointwise_decides same_extension-Decides t.extensions u.extensions)
    (same_base-Decides t.base u.base) in (
      λ h. let p = d.0 h in λ i. record { extensions = p.0 i; base = p.1 i },
      λ p.
          d.1 (ap (λ x. x.extensions) p, ap (λ x. x.base) p),
    )
