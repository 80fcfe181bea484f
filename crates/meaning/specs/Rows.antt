-- The thirteen starred rows of document 01, 'Cases at the edges', as one table.
use Rattle.std.specs.Prelude.{ℕ, ◌^◌, true, false, List, [], ◌∷◌}
use Prim.Native.String.{String}
use Rattle.meaning.specs.Refusals.Refusal.{invalid_coefficient, overflow, inexact_rounding, unparseable, empty_exponent}
use Rattle.meaning.specs.Decimal.Decimal.{finite}
use Rattle.meaning.specs.Reading.{Reading, bytes, read_text}
use Rattle.meaning.specs.Reading.Reading.{refused, accepted}
use Rattle.meaning.specs.Writing.{hexes}
use Rattle.meaning.specs.Answers.{bytes_given, text_given}

-- a text, its answer, the stored bytes in hex, and what they are written as
pub record Row : Type 0 where
  pub text : List ℕ
  pub answer : Reading
  pub hex : List ℕ
  pub written : List ℕ

row : String → Reading → String → String → Row
row t a h w = record { text = bytes t; answer = a; hex = bytes h; written = bytes w }

-- refused: 16 zero bytes, and nothing is written
nothing : String → Reading → Row
unfolding row
nothing t a = row t a "00000000000000000000000000000000" ""

unfoldable pub rows : List Row
unfolding row nothing
rows =
    nothing "" (refused unparseable)
    ∷ row "-0" (accepted (finite true 6176 0)) "000000000000000000000000000040b0" "-0"
    ∷ row "0E9999" (accepted (finite false 12287 0)) "0000000000000000000000000000fe5f" "0E+6111"
    ∷ row "0E-9999" (accepted (finite false 0 0)) "00000000000000000000000000000000" "0E-6176"
    ∷ row "1E-6176" (accepted (finite false 0 1)) "01000000000000000000000000000000" "1E-6176"
    ∷ row "10E-6177" (accepted (finite false 0 1)) "01000000000000000000000000000000" "1E-6176"
    ∷ nothing "1E-6177" (refused inexact_rounding)
    ∷ nothing "1E-6178" (refused overflow)
    ∷ row "1E6144" (accepted (finite false 12287 (10 ^ 33))) "000000000a5bc138938d44c64d31fe5f" "1.000000000000000000000000000000000E+6144"
    ∷ nothing "1E6145" (refused overflow)
    ∷ nothing "1.2.3" (refused invalid_coefficient)
    ∷ nothing "1.2.3E-6176" (refused inexact_rounding)
    ∷ nothing "infinite" (refused empty_exponent)
    ∷ []

-- the row that the definitions give for a text
unfoldable pub row_of : List ℕ → Row
row_of t = record { text = t; answer = read_text t; hex = hexes (bytes_given (read_text t)); written = text_given (read_text t) }
