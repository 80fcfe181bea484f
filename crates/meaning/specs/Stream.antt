-- The record of a text, and the records of a stream of lines: document 01, 'The line program', and tickets 1 and 2 of
-- document 02.
use Rattle.std.specs.Prelude.{ℕ, ◌+◌, ◌-◌, ◌*◌, Bool, true, cond, ◌&&◌, List, [], ◌∷◌, ◌++◌, length, eqb, leb, ltb}
use Rattle.meaning.specs.Refusals.Refusal.{line_too_long, malformed_bytes}
use Rattle.meaning.specs.Layout.{stored, bytes_of, decode, encode}
use Rattle.meaning.specs.Reading.{Reading, Located, is_digit, lower, read_at}
use Rattle.meaning.specs.Reading.Reading.{refused, accepted}
use Rattle.meaning.specs.Writing.{decimal, hexes, write_text, debug_text}
use Rattle.meaning.specs.Answers.{number_given}

-- 32 hex digits, a tab and the written text; `-` twice after a refusal
abbrev pub fields : Reading → List ℕ
fields (refused r) = 45 ∷ 9 ∷ 45 ∷ []
fields (accepted v) = hexes (bytes_of 16 (encode v)) ++ 9 ∷ write_text v

-- the number, a tab, the fields
abbrev pub answer_text : Reading → List ℕ
answer_text r = decimal (number_given r) ++ 9 ∷ fields r

-- a tab, the place, LF
unfoldable pub record_text : Located → List ℕ
record_text r = answer_text r.reading ++ 9 ∷ decimal r.place ++ 10 ∷ []

-- `-` stands for the place of a text that is not read
unfoldable pub unread : List ℕ
unread = answer_text (refused line_too_long) ++ 9 ∷ 45 ∷ 10 ∷ []

-- a text of more than 4,096 bytes is refused unread
unfoldable pub line_record : List ℕ → List ℕ
line_record s = cond (leb (length s) 4096) (record_text (read_at s)) unread

-- the text of a line: one CR as its last byte belongs to the line end
unfoldable pub without_cr : List ℕ → List ℕ
without_cr [] = []
without_cr (b ∷ []) = cond (eqb b 13) [] (b ∷ [])
without_cr (b ∷ c ∷ s) = b ∷ without_cr (c ∷ s)

-- the texts of a stream's lines, where p stands before it in its first line; an empty rest after the last LF is none
unfoldable pub lines_after : List ℕ → List ℕ → List (List ℕ)
lines_after p [] = cond (eqb (length p) 0) [] (without_cr p ∷ [])
lines_after p (b ∷ s) = cond (eqb b 10) (without_cr p ∷ lines_after [] s) (lines_after (p ++ (b ∷ [])) s)

unfoldable pub records_of : (List ℕ → List ℕ) → List (List ℕ) → List ℕ
records_of f [] = []
records_of f (l ∷ ls) = f l ++ records_of f ls

-- one record a line; f gives a text's record
unfoldable pub stream_records : (List ℕ → List ℕ) → List ℕ → List ℕ
stream_records f s = records_of f (lines_after [] s)

-- ---- stored values, as lines of 32 hex digits in either case

-- 16 and more: no hex digit
abbrev pub hex_value : ℕ → ℕ
hex_value b = cond (is_digit b) (b - 48) (cond (leb 97 (lower b) && leb (lower b) 102) (lower b - 87) 16)

unfoldable pub all_hex : List ℕ → Bool
all_hex [] = true
all_hex (b ∷ s) = ltb (hex_value b) 16 && all_hex s

unfoldable pub unhex : List ℕ → List ℕ
unhex [] = []
unhex (a ∷ []) = []
unhex (a ∷ b ∷ s) = (16 * hex_value a + hex_value b) ∷ unhex s

-- 8, `-` and `-`: the line is no text, and has no place
unfoldable pub malformed : List ℕ
malformed = answer_text (refused malformed_bytes) ++ 10 ∷ []

-- 0, the written text and the debug form; 8 for any other line
unfoldable pub stored_record : List ℕ → List ℕ
stored_record s =
    cond (eqb (length s) 32 && all_hex s)
    (48 ∷ 9 ∷ write_text (decode (stored (unhex s))) ++ 9 ∷ debug_text (unhex s) ++ 10 ∷ [])
    malformed
