use Rattle.std.proofs.Common.{◌≡◌, ℕ, Bool, false, List, Option, Some, None, ap, refl, ◌∙◌, length}
use Rattle.std.specs.Prelude.{⊤, IfOk, IsErrAnd, MatchOption, Result, Ok, Err}
use Rattle.std.proofs.lemmas.Result.{IfOk-weaker}
use Rattle.arrow_column.specs.Column.{ColumnWith, slots_of}
use Rattle.arrow_bytes.specs.Pieces.{nothing_around}
use Rattle.arrow_bytes.specs.Selection.{at_keys, first_out_of_bounds, taken}
use Rattle.tests_kernels.proofs.law_callers.take.Goals as goal

pub returns-clause-slots : goal.returns-clause-slots
returns-clause-slots g c =
    IfOk-weaker c.take_utf8.result _
    (λ made. slots_of made ≡ at_keys g.K.IndexKey.number c.args.keys.now (slots_of c.args.array.now))
    (λ made both. ap slots_of both.1
    ∙ c.taken_slots.ensures.slots nothing_around g.K.IndexKey.number c.args.array.now c.args.keys.now)
    c.take_utf8.ensures.ok

-- a take that succeeds found no key out of bounds
counted : {A S E K : Type 0} (P : K → E → Type 0) (result : Result (ColumnWith A S) E) (found : Option K) (b : Bool)
    (whole : ColumnWith A S) (n : ℕ) → MatchOption found ⊤ (λ key. IsErrAnd result (P key))
    → IfOk result (λ made. (b ≡ false) × (made ≡ whole)) → (found ≡ None → length whole.rows ≡ n)
    → IfOk result (λ made. length made.rows ≡ n)
counted P (Ok made) None b whole n fine same count = ap (λ column. length column.rows) same.1 ∙ count refl
counted P (Ok made) (Some key) b whole n fine same count = absurd fine
counted P (Err e) found b whole n fine same count = tt

pub returns-clause-count : goal.returns-clause-count
returns-clause-count g c =
    counted _ c.take_utf8.result (first_out_of_bounds g.K.IndexKey.number c.args.array.now c.args.keys.now) _
    (taken nothing_around g.K.IndexKey.number c.args.array.now c.args.keys.now) (length c.args.keys.now)
    c.take_utf8.ensures.out_of_bounds c.take_utf8.ensures.ok
    (c.taken_slots.ensures.count nothing_around g.K.IndexKey.number c.args.array.now c.args.keys.now)
