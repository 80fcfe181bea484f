-- What ends a line, in the words of ticket 1 of document 02, said of the lines of a stream. With the definition's own two,
-- that nothing is no line and that an LF at the front ends an empty one, these are all the cases.
use Rattle.std.specs.Prelude.{◌≡◌, ◌≢◌, false, List, [], ◌∷◌, ◌++◌, ℕ}
use Rattle.meaning.specs.Reading.{holds}
use Rattle.meaning.specs.Stream.{lines_after}

-- CR LF ends a line, and all that stands before it is text, other CRs too: `1\r\r\n` is the text `1\r`
abbrev pub CrLfEnds : Type 0
CrLfEnds = (t s : List ℕ) → holds 10 t ≡ false → lines_after [] (t ++ 13 ∷ 10 ∷ s) ≡ t ∷ lines_after [] s

-- LF alone ends a line whose last byte b is no CR
abbrev pub LfEnds : Type 0
LfEnds =
    (t s : List ℕ) (b : ℕ) → holds 10 (t ++ b ∷ []) ≡ false → b ≢ 13 →
    lines_after [] ((t ++ b ∷ []) ++ 10 ∷ s) ≡ (t ++ b ∷ []) ∷ lines_after [] s

-- a CR as the last byte of all ends the last line; where t is empty that is an empty line
abbrev pub CrEndsTheLast : Type 0
CrEndsTheLast = (t : List ℕ) → holds 10 t ≡ false → lines_after [] (t ++ 13 ∷ []) ≡ t ∷ []

-- a last line that nothing ends is text as it stands
abbrev pub LastAsItStands : Type 0
LastAsItStands =
    (t : List ℕ) (b : ℕ) → holds 10 (t ++ b ∷ []) ≡ false → b ≢ 13 →
    lines_after [] (t ++ b ∷ []) ≡ (t ++ b ∷ []) ∷ []
