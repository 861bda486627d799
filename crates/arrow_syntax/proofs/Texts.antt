-- Lemmas on bytes that are text.
use Rattle.std.proofs.Common.{◌≡◌, ℕ, Bool, true, false, if◌then◌else◌, refl, ap, arith, subst, Some, None}
use Rattle.std.proofs.Common.{Result, Ok, Err, Vec, String, string_bytes}
use Rattle.std.specs.Prelude.{IsOk, IfOk, option_map}
use Rattle.std.specs.Result.{result_ok}
use Rattle.std.specs.Str.{is_utf8, IsUtf8}
use Rattle.std.specs.String.{string_vec}
use Rattle.std.specs.declared.alloc.Global.{Global}
use Rattle.std.proofs.lemmas.Str.{IsUtf8-from_is_utf8, IsUtf8-string_bytes, is_utf8-from_IsUtf8}

refused : (test : Bool) (bytes : Vec ℕ Global) → is_utf8 bytes.items ≡ test → (IsUtf8 bytes.items → ⊥)
    → None ≡ (if test then Some bytes.items else None)
refused false bytes e never = refl
refused true bytes e never = absurd (never (IsUtf8-from_is_utf8 bytes.items e))

-- bytes become a text exactly if they are UTF-8
pub text_read : {E : Type 0} (read : Result (String Global) E) (bytes : Vec ℕ Global)
    → (IsUtf8 bytes.items → IsOk read) → IfOk read (λ text. string_vec text ≡ bytes)
    → option_map string_bytes (result_ok read) ≡ (if is_utf8 bytes.items then Some bytes.items else None)
text_read (Ok text) bytes succeeds is =
    let whole : string_bytes text ≡ bytes.items = ap (λ (v : Vec ℕ Global). v.items) is in
    rw (is_utf8-from_IsUtf8 bytes.items (subst IsUtf8 whole (IsUtf8-string_bytes text))) (ap Some whole)
text_read {E} (Err error) bytes succeeds is = refused (is_utf8 bytes.items) bytes refl
    (λ met. let h = succeeds met in let none : ⊥ = grind (arith, h) in none)
