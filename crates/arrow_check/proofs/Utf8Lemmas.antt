-- The characters of Unicode's table are the encoded scalar values.
use Rattle.std.proofs.Common.{◌≡◌, ℕ, ◌+◌, ◌/◌, ◌<◌, ◌≤◌, ◌⊎◌, ◌↔◌, true, List, [], ◌∷◌, ◌++◌, map, refl, sym, ap}
use Rattle.std.proofs.Common.{◌∙◌, subst, inl, inr, arith, lt-ltb, le-ltb}
use Rattle.std.proofs.lemmas.Bool.{cases_lt, and_parts}
use Rattle.std.proofs.lemmas.Str.{encode_ascii, IsUtf8-append, IsUtf8-nil}
use Rattle.std.specs.Int.{IsInRange}
use Rattle.std.specs.List.{concat, AllByRecursion}
use Rattle.std.specs.Str.{IsUtf8}
use Rattle.std.proofs.Math.Utf8.{scalar, scalars, encode, encodes, next, scalar_cases}
use Rattle.simdutf8.specs.Steps.{least_after, most_after, first, second, later}
use Rattle.simdutf8.proofs.Chars.{least_is, most_is, StepsThen-IsUtf8}
use Rattle.arrow_check.specs.Utf8.{AreInRow, AreInSome, character_rows, IsCharacter, IsWellFormed}

-- ---- a character is UTF-8

one : (a : ℕ) → a ≤ 0x7F → IsUtf8 (a ∷ [])
one a h = (StepsThen-IsUtf8 _).0 (first (omega arith) (inl (omega arith)), omega arith)

two : (a b : ℕ) → IsInRange 0xC2 0xDF a → IsInRange 0x80 0xBF b → IsUtf8 (a ∷ b ∷ [])
two a b h f =
    let l = least_is a in
    let m = most_is a in
    (StepsThen-IsUtf8 _).0 (
      first (omega arith) (inr (omega arith)),
      (second (omega arith) (omega arith) (omega arith), omega arith),
    )

-- the second byte is one of those that its first byte leaves
abbrev Follows : ℕ → ℕ → Type 0
Follows a b = (least_after a ≤ b) × (b ≤ most_after a)

three : (a b c : ℕ) → IsInRange 0xE0 0xEF a → Follows a b → IsInRange 0x80 0xBF c → IsUtf8 (a ∷ b ∷ c ∷ [])
three a b c h f g =
    let l = least_is a in
    let m = most_is a in
    (StepsThen-IsUtf8 _).0 (
      first (omega arith) (inr (omega arith)),
      (
        second (omega arith) (omega arith) f,
        (later (inr (omega arith)) (omega arith) (omega arith), omega arith),
      ),
    )

four : (a b c d : ℕ) → IsInRange 0xF0 0xF4 a → Follows a b → IsInRange 0x80 0xBF c → IsInRange 0x80 0xBF d
    → IsUtf8 (a ∷ b ∷ c ∷ d ∷ [])
four a b c d h f g j =
    let l = least_is a in
    let m = most_is a in
    (StepsThen-IsUtf8 _).0 (
      first (omega arith) (inr (omega arith)),
      (
        second (omega arith) (omega arith) f,
        (
          later (inr (omega arith)) (omega arith) (omega arith),
          (later (inl (omega arith)) (omega arith) (omega arith), omega arith),
        ),
      ),
    )

-- what is in a row of so many ranges is so many bytes

of_one : (r : ℕ × ℕ) (bytes : List ℕ) → AreInRow (r ∷ []) bytes → (a : ℕ) × (bytes ≡ a ∷ []) × IsInRange r.0 r.1 a
of_one r [] h = absurd h
of_one r (a ∷ []) h = (a, refl, h.0)
of_one r (a ∷ b ∷ bytes) h = absurd h.1

of_two : (r s : ℕ × ℕ) (bytes : List ℕ) → AreInRow (r ∷ s ∷ []) bytes → (a b : ℕ) × (bytes ≡ a ∷ b ∷ [])
    × IsInRange r.0 r.1 a × IsInRange s.0 s.1 b
of_two r s [] h = absurd h
of_two r s (a ∷ bytes) h = let rest = of_one s bytes h.1 in (a, rest.0, ap (λ l. a ∷ l) rest.1, h.0, rest.2)

of_three : (r s t : ℕ × ℕ) (bytes : List ℕ) → AreInRow (r ∷ s ∷ t ∷ []) bytes
    → (a b c : ℕ) × (bytes ≡ a ∷ b ∷ c ∷ []) × IsInRange r.0 r.1 a × IsInRange s.0 s.1 b × IsInRange t.0 t.1 c
of_three r s t [] h = absurd h
of_three r s t (a ∷ bytes) h = let rest = of_two s t bytes h.1 in (
  a,
  rest.0,
  rest.1,
  ap (λ l. a ∷ l) rest.2,
  h.0,
  rest.3,
  rest.4,
)

of_four : (r s t u : ℕ × ℕ) (bytes : List ℕ) → AreInRow (r ∷ s ∷ t ∷ u ∷ []) bytes
    → (a b c d : ℕ) × (bytes ≡ a ∷ b ∷ c ∷ d ∷ []) × IsInRange r.0 r.1 a × IsInRange s.0 s.1 b × IsInRange t.0 t.1 c
    × IsInRange u.0 u.1 d
of_four r s t u [] h = absurd h
of_four r s t u (a ∷ bytes) h = let rest = of_three s t u bytes h.1 in
    (a, rest.0, rest.1, rest.2, ap (λ l. a ∷ l) rest.3, h.0, rest.4, rest.5, rest.6)

abbrev IsUtf8Row : List (ℕ × ℕ) → Type 0
IsUtf8Row row = (bytes : List ℕ) → AreInRow row bytes → IsUtf8 bytes

-- a row of three or four ranges whose second follows its first
row_of_three : (r s : ℕ × ℕ) → ((a b : ℕ) → IsInRange r.0 r.1 a → IsInRange s.0 s.1 b
    → IsInRange 0xE0 0xEF a × Follows a b) → IsUtf8Row (r ∷ s ∷ (0x80, 0xBF) ∷ [])
row_of_three r s fits bytes h =
    let x = of_three r s (0x80, 0xBF) bytes h in
    let f = fits x.0 x.1 x.4 x.5 in
    subst IsUtf8 (sym x.3) (three x.0 x.1 x.2 f.0 f.1 x.6)

row_of_four : (r s : ℕ × ℕ) → ((a b : ℕ) → IsInRange r.0 r.1 a → IsInRange s.0 s.1 b
    → IsInRange 0xF0 0xF4 a × Follows a b) → IsUtf8Row (r ∷ s ∷ (0x80, 0xBF) ∷ (0x80, 0xBF) ∷ [])
row_of_four r s fits bytes h =
    let x = of_four r s (0x80, 0xBF) (0x80, 0xBF) bytes h in
    let f = fits x.0 x.1 x.5 x.6 in
    subst IsUtf8 (sym x.4) (four x.0 x.1 x.2 x.3 f.0 f.1 x.7 x.8)

utf8_rows : AllByRecursion IsUtf8Row character_rows
utf8_rows = (
  λ bytes h. (let x = of_one (0x00, 0x7F) bytes h in subst IsUtf8 (sym x.1) (one x.0 x.2.1)),
  (
    λ bytes h. (let x = of_two (0xC2, 0xDF) (0x80, 0xBF) bytes h in subst IsUtf8 (sym x.2) (two x.0 x.1 x.3 x.4)),
    (
      row_of_three (0xE0, 0xE0) (0xA0, 0xBF) (λ a b p q. let l = least_is a in let m = most_is a in
          (omega arith, omega arith)),
      (
        row_of_three (0xE1, 0xEC) (0x80, 0xBF) (λ a b p q. let l = least_is a in let m = most_is a in
            (omega arith, omega arith)),
        (
          row_of_three (0xED, 0xED) (0x80, 0x9F) (λ a b p q. let l = least_is a in let m = most_is a in
              (omega arith, omega arith)),
          (
            row_of_three (0xEE, 0xEF) (0x80, 0xBF) (λ a b p q. let l = least_is a in let m = most_is a in
                (omega arith, omega arith)),
            (
              row_of_four (0xF0, 0xF0) (0x90, 0xBF) (λ a b p q. let l = least_is a in let m = most_is a in
                  (omega arith, omega arith)),
              (
                row_of_four (0xF1, 0xF3) (0x80, 0xBF) (λ a b p q. let l = least_is a in let m = most_is a in
                    (omega arith, omega arith)),
                (
                  row_of_four (0xF4, 0xF4) (0x80, 0x8F) (λ a b p q. let l = least_is a in let m = most_is a in
                      (omega arith, omega arith)),
                  tt,
                ),
              ),
            ),
          ),
        ),
      ),
    ),
  ),
)

in_some : (rows : List (List (ℕ × ℕ))) → AllByRecursion IsUtf8Row rows → (bytes : List ℕ) → AreInSome rows bytes
    → IsUtf8 bytes
in_some [] all bytes h = absurd h
in_some (row ∷ rows) all bytes (inl h) = all.0 bytes h
in_some (row ∷ rows) all bytes (inr h) = in_some rows all.1 bytes h

joined : (characters : List (List ℕ)) → AllByRecursion IsCharacter characters → IsUtf8 (concat characters)
joined [] all = IsUtf8-nil
joined (c ∷ cs) all = IsUtf8-append c (concat cs) (in_some character_rows utf8_rows c all.0) (joined cs all.1)

-- ---- an encoded scalar value is a character

encode_two : (c : ℕ) → 128 ≤ c → c < 2048 → encode c ≡ (192 + c / 64) ∷ next c ∷ []
unfolding encode
encode_two c l h = rw (le-ltb c 128 l, lt-ltb c 2048 h)

encode_three : (c : ℕ) → 2048 ≤ c → c < 65536 → encode c ≡ (224 + c / 4096) ∷ next (c / 64) ∷ next c ∷ []
unfolding encode
encode_three c l h = rw (le-ltb c 128 (omega arith), le-ltb c 2048 l, lt-ltb c 65536 h)

encode_four : (c : ℕ) → 65536 ≤ c → encode c ≡ (240 + c / 262144) ∷ next (c / 4096) ∷ next (c / 64) ∷ next c ∷ []
unfolding encode
encode_four c l = rw (le-ltb c 128 (omega arith), le-ltb c 2048 (omega arith), le-ltb c 65536 l)

in_three : (c : ℕ) → 2048 ≤ c → c < 65536 → (c < 55296) ⊎ ((57344 ≤ c) × (c < 1114112))
    → IsCharacter ((224 + c / 4096) ∷ next (c / 64) ∷ next c ∷ [])
in_three c l h range =
    elim (cases_lt c 4096) [
      | inl k ↦ inr (inr (inl (omega arith, (omega arith, (omega arith, tt)))))
      | inr k ↦ elim (cases_lt c 53248) [
        | inl m ↦ inr (inr (inr (inl (omega arith, (omega arith, (omega arith, tt))))))
        | inr m ↦ elim (cases_lt c 57344) [
          | inl n ↦ inr (inr (inr (inr (inl (omega arith, (omega arith, (omega arith, tt)))))))
          | inr n ↦ inr (inr (inr (inr (inr (inl (omega arith, (omega arith, (omega arith, tt))))))))
        ]
      ]
    ]

in_four : (c : ℕ) → 65536 ≤ c → c < 1114112
    → IsCharacter ((240 + c / 262144) ∷ next (c / 4096) ∷ next (c / 64) ∷ next c ∷ [])
in_four c l h =
    elim (cases_lt c 262144) [
      | inl k ↦ inr (inr (inr (inr (inr (inr (inl (omega arith, (omega arith, (omega arith, (omega arith, tt))))))))))
      | inr k ↦ elim (cases_lt c 1048576) [
        | inl m ↦ inr (inr (inr (inr
            (inr (inr (inr (inl (omega arith, (omega arith, (omega arith, (omega arith, tt)))))))))))
        | inr m ↦ inr (inr (inr (inr
            (inr (inr (inr (inr (inl (omega arith, (omega arith, (omega arith, (omega arith, tt))))))))))))
      ]
    ]

encoded : (c : ℕ) → scalar c ≡ true → IsCharacter (encode c)
encoded c ok =
    let range = scalar_cases c ok in
    elim (cases_lt c 128) [
      | inl a ↦ rw (encode_ascii c a) (inl (omega arith, tt))
      | inr a ↦ elim (cases_lt c 2048) [
        | inl b ↦ rw (encode_two c a b) (inr (inl (omega arith, (omega arith, tt))))
        | inr b ↦ elim (cases_lt c 65536) [
          | inl d ↦ rw (encode_three c b d) (in_three c b d range)
          | inr d ↦ rw (encode_four c d) (in_four c d (omega arith))
        ]
      ]
    ]

all_encoded : (cs : List ℕ) → scalars cs ≡ true → AllByRecursion IsCharacter (map encode cs)
all_encoded [] ok = tt
all_encoded (c ∷ cs) ok = let p = and_parts (scalar c) (scalars cs) ok in (encoded c p.0, all_encoded cs p.1)

concat-encoded : (cs : List ℕ) → concat (map encode cs) ≡ encodes cs
concat-encoded [] = refl
concat-encoded (c ∷ cs) = ap (λ l. encode c ++ l) (concat-encoded cs)

pub well_formed-IsUtf8 : (bytes : List ℕ) → IsWellFormed bytes ↔ IsUtf8 bytes
well_formed-IsUtf8 bytes = (
  λ w. subst IsUtf8 w.2 (joined w.0 w.1),
  λ u. (
    map encode u.0,
    all_encoded u.0 u.1.0,
    concat-encoded u.0 ∙ u.1.1,
  ),
)
