-- Lines, the words in them, and the numbers that words write.
use Rattle.std.specs.Prelude.{ℕ, ◌+◌, ◌*◌, ◌^◌, Bool, false, ◌&&◌, ◌||◌, nat_lt, nat_le, ◌==◌, if◌then◌else◌}
use Rattle.std.specs.Prelude.{List, [], ◌∷◌, length, filter, ℤ, pos, neg_ℤ, Option, Some, None, option_and_then}
use Rattle.std.specs.Prelude.{◌≡◌, MatchOption}
use Rattle.std.specs.Borrow.{Bor}
use Rattle.std.specs.List.{slice_split, list_all}
use Rattle.std.specs.Char.{digit_value}
use Rattle.std.specs.Str.Parse.{digits_value}

-- the bytes that separate or begin lines and words, by their codes
abbrev pub line_feed : ℕ
line_feed = 10

abbrev pub space : ℕ
space = 32

abbrev pub hash : ℕ
hash = 35

abbrev pub minus : ℕ
minus = 45

-- the pieces of a text between the occurrences of a byte, one more than these
unfoldable pub pieces : ℕ → List ℕ → List (List ℕ)
pieces byte = slice_split (λ b. b == byte)

-- the first piece of a text is `front`, and the text behind it has the others; `None` if there is no other
abbrev pub SplitsAt : ℕ → List ℕ → List ℕ → Option (Bor (List ℕ)) → Type 0
SplitsAt byte text front after =
    MatchOption after (pieces byte text ≡ front ∷ []) (λ rest. pieces byte text ≡ front ∷ pieces byte rest.now)

-- the lines of a text; after a line feed at its end an empty line follows
abbrev pub lines_of : List ℕ → List (List ℕ)
lines_of = pieces line_feed

-- a line whose first byte is `#`
abbrev pub is_comment : List ℕ → Bool
is_comment [] = false
is_comment (b ∷ _) = b == hash

-- a line that has no reply: a comment, or nothing but spaces
abbrev pub is_passed_over : List ℕ → Bool
is_passed_over line = is_comment line || list_all (λ b. b == space) line

-- a line of spaces and of the bytes of words, which are 21 to 7E in hexadecimal
abbrev pub is_printable : List ℕ → Bool
is_printable = list_all (λ b. nat_le space b && nat_le b 126)

-- the words of a line: the pieces between its spaces that are not empty
unfoldable pub words_of : List ℕ → List (List ℕ)
words_of line = filter (λ word. nat_lt 0 (length word)) (pieces space line)

abbrev pub is_digit : ℕ → Bool
is_digit b = nat_le 48 b && nat_le b 57

-- the number that one or more digits write, below 2 to the power 64
unfoldable pub parse_usize : List ℕ → Option ℕ
parse_usize word =
    if nat_lt 0 (length word) && (list_all is_digit word && nat_lt (digits_value 10 word) (2 ^ 64))
    then Some (digits_value 10 word)
    else None

-- a number with one more digit at its end, below 2 to the power 64
abbrev pub with_digit : ℕ → ℕ → Option ℕ
with_digit n b = if is_digit b && nat_lt (n * 10 + digit_value b) (2 ^ 64) then Some (n * 10 + digit_value b) else None

-- the number as a signed number, if it is below this half of the type's range
abbrev pub positive : ℕ → ℕ → Option ℤ
positive half n = if nat_lt n half then Some (pos n) else None

-- its negation, if the number is at most the half
abbrev pub negative : ℕ → ℕ → Option ℤ
negative half n = if nat_le n half then Some (neg_ℤ (pos n)) else None

-- the signed number that digits write, after a `-` if it is negative
abbrev pub parse_signed : ℕ → List ℕ → Option ℤ
parse_signed half [] = None
parse_signed half (b ∷ bs) =
    if b == minus
    then option_and_then (negative half) (parse_usize bs)
    else option_and_then (positive half) (parse_usize (b ∷ bs))

-- a signed number of 64 bits
abbrev pub parse_i64 : List ℕ → Option ℤ
parse_i64 = parse_signed (2 ^ 63)

-- a signed number of 32 bits
abbrev pub parse_i32 : List ℕ → Option ℤ
parse_i32 = parse_signed (2 ^ 31)
