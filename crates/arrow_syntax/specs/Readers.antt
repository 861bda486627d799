-- Readers of lists of words: each word has its own parser, and no word may be left over.
use Rattle.std.specs.Prelude.{⊤, ℕ, bytes_eq, if◌then◌else◌, List, [], ◌∷◌, Option, Some, None, option_map}
use Rattle.std.specs.Prelude.{◌≡◌, option_and_then, Result, IfOk}
use Rattle.std.specs.Borrow.{Bor}
use Rattle.arrow_syntax.specs.Words.{words_of}

-- a reader: the value that words write, or `None` if they are malformed
abbrev pub Reader : Type 0 → Type 0
Reader A = List (List ℕ) → Option A

-- the value listed for a word
abbrev pub lookup : {A : Type 0} → List (List ℕ × A) → List ℕ → Option A
lookup [] word = None
lookup (pair ∷ pairs) word = if bytes_eq word pair.0 then Some pair.1 else lookup pairs word

-- the value of the first word, and the words behind it
abbrev pub first : {A : Type 0} → (List ℕ → Option A) → Reader (A × List (List ℕ))
first f [] = None
first f (word ∷ words) = option_map (λ x. (x, words)) (f word)

-- the value that a function makes of what a reader reads
abbrev pub map_read : {A B : Type 0} → Reader A → (A → B) → Reader B
map_read reader make words = option_map make (reader words)

-- no word is left
abbrev pub end : Reader ⊤
end [] = Some tt
end (word ∷ words) = None

abbrev pub no_words : {A : Type 0} → A → Reader A
no_words x = map_read end (λ _. x)

-- one word, the last
abbrev pub only : {A : Type 0} → (List ℕ → Option A) → Reader A
only f words = option_and_then (λ x. no_words x.0 x.1) (first f words)

-- any number of words, or of other things, each read in the same way
abbrev pub each : {X A : Type 0} → (X → Option A) → List X → Option (List A)
each f [] = Some []
each f (x ∷ xs) = option_and_then (λ y. option_map (λ ys. y ∷ ys) (each f xs)) (f x)

-- one word, and the value of the words behind it
infixr 40 ◌▸◌
abbrev pub ◌▸◌ : {A B : Type 0} → (List ℕ → Option A) → Reader B → Reader (A × B)
(f ▸ others) words = option_and_then (λ x. option_map (λ y. (x.0, y)) (others x.1)) (first f words)

-- one word, whose value decides how the words behind it are read
abbrev pub next : {A B : Type 0} → (List ℕ → Option A) → (A → Reader B) → Reader B
next f others words = option_and_then (λ x. others x.0 x.1) (first f words)

-- if a call succeeds, it reads the value that these words have; `meaning` is that of a value in memory
abbrev pub ParsesAs : {A M E : Type 0} → Result (Option A) E → (A → M) → Option M → Type 0
ParsesAs result meaning wanted = IfOk result (λ read. option_map meaning read ≡ wanted)

-- a value and the text behind it, as the value that it means and the words of that text
abbrev pub with_rest : {A M : Type 0} → (A → M) → A × Bor (List ℕ) → M × List (List ℕ)
with_rest meaning x = (meaning x.0, words_of x.1.now)

-- words that one reader reads as `x` are read as `y` by another
abbrev pub ReadsToo : {A B : Type 0} → Reader A → A → Reader B → B → Type 0
ReadsToo reader x other y = (words : List (List ℕ)) → reader words ≡ Some x → other words ≡ Some y
