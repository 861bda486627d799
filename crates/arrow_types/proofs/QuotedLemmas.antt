-- The bytes of a character in quotes.
use Rattle.std.proofs.Common.{◌≡◌, ◌≢◌, ℕ, ◌+◌, ◌/◌, ◌%◌, ◌<◌, ◌≤◌, ◌∙◌, ap, refl, sym, arith, inl, inr}
use Rattle.std.proofs.Common.{Bool, true, false, cond, ◌||◌, true≢false, List, [], ◌∷◌, ◌++◌, append-nil}
use Rattle.std.proofs.Debugs.{debug_escape_other}
use Rattle.std.proofs.Math.Dec.{eqb, ltb}
use Rattle.std.proofs.lemmas.Bool.{cases_lt, eqb-true, ltb-true, ne_eqb}
use Rattle.std.proofs.lemmas.Str.{encode_ascii}
use Rattle.std.specs.Char.{encode_utf8}
use Rattle.std.specs.Fmt.{debug_escape, debug_escape_letter, digits}
use Rattle.arrow_types.specs.QuotedText.{escaped_text}

-- ---- characters with a letter of their own

pub escaped-34 : escaped_text (encode_utf8 34) ≡ 92 ∷ 34 ∷ []
unfolding encode_utf8 debug_escape
escaped-34 = refl

pub escaped-92 : escaped_text (encode_utf8 92) ≡ 92 ∷ 92 ∷ []
unfolding encode_utf8 debug_escape
escaped-92 = refl

pub escaped-0 : escaped_text (encode_utf8 0) ≡ 92 ∷ 48 ∷ []
unfolding encode_utf8 debug_escape
escaped-0 = refl

pub escaped-9 : escaped_text (encode_utf8 9) ≡ 92 ∷ 116 ∷ []
unfolding encode_utf8 debug_escape
escaped-9 = refl

pub escaped-10 : escaped_text (encode_utf8 10) ≡ 92 ∷ 110 ∷ []
unfolding encode_utf8 debug_escape
escaped-10 = refl

pub escaped-13 : escaped_text (encode_utf8 13) ≡ 92 ∷ 114 ∷ []
unfolding encode_utf8 debug_escape
escaped-13 = refl

-- ---- others

pub no_letter : (c : ℕ) → c ≢ 34 → c ≢ 92 → c ≢ 0 → c ≢ 9 → c ≢ 10 → c ≢ 13 → debug_escape_letter c 34 ≡ 0
no_letter c quote backslash zero tab feed return =
    rw (ne_eqb c 34 quote, ne_eqb c 0 zero, ne_eqb c 9 tab, ne_eqb c 10 feed, ne_eqb c 13 return, ne_eqb c 92 backslash)

escaped-ascii : (c : ℕ) → c < 128 → escaped_text (encode_utf8 c) ≡ debug_escape 34 c
escaped-ascii c low = ap escaped_text (encode_ascii c low) ∙ append-nil (debug_escape 34 c)

control_ascii : (c : ℕ) (t u : Bool) → ltb c 32 ≡ t → eqb c 127 ≡ u → (t || u) ≡ true → c < 128
control_ascii c true u e f h = let low = ltb-true c 32 e in omega (arith, low)
control_ascii c false true e f h = let same = eqb-true c 127 f in omega (arith, same)
control_ascii c false false e f h = absurd (true≢false (sym h))

-- a control character is written as its number
pub escaped-control : (c : ℕ) → debug_escape_letter c 34 ≡ 0 → (ltb c 32 || eqb c 127) ≡ true
    → escaped_text (encode_utf8 c) ≡ 92 ∷ 117 ∷ 123 ∷ (digits 16 false c ++ (125 ∷ []))
escaped-control c none test =
    escaped-ascii c (control_ascii c (ltb c 32) (eqb c 127) refl refl test) ∙ debug_escape_other 34 c true none test

high_byte : (b : ℕ) → 128 ≤ b → debug_escape 34 b ≡ b ∷ []
high_byte b high =
    let none = no_letter b (λ e. omega (arith, high, e)) (λ e. omega (arith, high, e)) (λ e. omega (arith, high, e))
    (λ e. omega (arith, high, e)) (λ e. omega (arith, high, e)) (λ e. omega (arith, high, e)) in
    debug_escape_other 34 b false none (no_control (ltb b 32) refl)
  where
    no_control : (t : Bool) → ltb b 32 ≡ t → (t || eqb b 127) ≡ false
    no_control true e = let low = ltb-true b 32 e in absurd (omega (arith, high, low))
    no_control false e = ne_eqb b 127 (λ f. omega (arith, high, f))

more : (b : ℕ) (bs : List ℕ) → 128 ≤ b → escaped_text bs ≡ bs → escaped_text (b ∷ bs) ≡ b ∷ bs
more b bs high e = ap (λ front. front ++ escaped_text bs) (high_byte b high) ∙ ap (λ rest. b ∷ rest) e

abbrev encoded : ℕ → Bool → Bool → Bool → List ℕ
encoded c t u v = cond t (c ∷ []) (cond u ((192 + c / 64) ∷ (128 + c % 64) ∷ [])
    (cond v ((224 + c / 4096) ∷ (128 + c / 64 % 64) ∷ (128 + c % 64) ∷ [])
    ((240 + c / 262144) ∷ (128 + c / 4096 % 64) ∷ (128 + c / 64 % 64) ∷ (128 + c % 64) ∷ [])))

escaped-encoded : (c : ℕ) (t u v : Bool) → 128 ≤ c → ltb c 128 ≡ t → escaped_text (encoded c t u v) ≡ encoded c t u v
escaped-encoded c true u v high e = let low = ltb-true c 128 e in absurd (omega (arith, high, low))
escaped-encoded c false true v high e = more _ _ (omega arith) (more _ _ (omega arith) refl)
escaped-encoded c false false true high e =
    more _ _ (omega arith) (more _ _ (omega arith) (more _ _ (omega arith) refl))
escaped-encoded c false false false high e =
    more _ _ (omega arith) (more _ _ (omega arith) (more _ _ (omega arith) (more _ _ (omega arith) refl)))

escaped-high : (c : ℕ) → 128 ≤ c → escaped_text (encode_utf8 c) ≡ encode_utf8 c
unfolding encode_utf8
escaped-high c high = escaped-encoded c (ltb c 128) (ltb c 2048) (ltb c 65536) high refl

-- every other character is written as it is
pub escaped-plain : (c : ℕ) → debug_escape_letter c 34 ≡ 0 → (ltb c 32 || eqb c 127) ≡ false
    → escaped_text (encode_utf8 c) ≡ encode_utf8 c
escaped-plain c none test = elim (cases_lt c 128) [
  | inl low ↦ escaped-ascii c low ∙ debug_escape_other 34 c false none test ∙ sym (encode_ascii c low)
  | inr high ↦ escaped-high c (omega (arith, high))
]
