-- The text of a value and the debug form of its bytes: document 01, 'Writing text', from MongoDB's specification
-- source/bson-decimal128, 'To String Representation'.
use Rattle.std.specs.Prelude.{ℕ, zero, suc, ◌+◌, ◌-◌, ◌/◌, ◌%◌, Bool, true, false, cond, ◌&&◌, List, [], ◌∷◌, ◌++◌, length, take, drop, replicate, eqb, leb, ltb}
use Rattle.meaning.specs.Decimal.{Decimal}
use Rattle.meaning.specs.Decimal.Decimal.{nan, infinity, finite}
use Rattle.meaning.specs.Reading.{bytes}

-- the decimal digits of n, at most k of them, before those in s
unfoldable pub digits_before : ℕ → ℕ → List ℕ → List ℕ
digits_before zero n s = s
digits_before (suc k) n s = cond (ltb n 10) ((48 + n) ∷ s) (digits_before k (n / 10) ((48 + n % 10) ∷ s))

-- n below 10^40 in decimal; zero has one digit
unfoldable pub decimal : ℕ → List ℕ
decimal n = digits_before 40 n []

-- below, ds are the k digits of the coefficient, e is the exponent + 6176, and so e + k is a + 6177

-- a in decimal, with `+` if it is above 0
abbrev pub exponent_text : ℕ → List ℕ
exponent_text a =
    cond (ltb 6177 a) (43 ∷ decimal (a - 6177)) (cond (ltb a 6177) (45 ∷ decimal (6177 - a)) (decimal 0))

-- first digit; if k > 1 a point and the rest; `E`; a
abbrev pub exponential : List ℕ → ℕ → List ℕ
exponential ds e =
    take 1 ds ++ cond (ltb 1 (length ds)) (46 ∷ drop 1 ds) [] ++ 69 ∷ exponent_text (e + length ds)

-- p is the exponent without its sign
abbrev pub plain : List ℕ → ℕ → List ℕ
plain ds p =
    cond (eqb p 0) ds
    (cond (leb (length ds) p)
    (48 ∷ 46 ∷ replicate (p - length ds) 48 ++ ds)
    (take (length ds - p) ds ++ 46 ∷ drop (length ds - p) ds))

-- plain where the exponent is at most 0 and a at least -6
unfoldable pub magnitude : List ℕ → ℕ → List ℕ
magnitude ds e = cond (leb e 6176 && leb 6171 (e + length ds)) (plain ds (6176 - e)) (exponential ds e)

abbrev pub signed : Bool → List ℕ → List ℕ
signed true s = 45 ∷ s
signed false s = s

unfoldable pub write_text : Decimal → List ℕ
write_text (nan s q) = bytes "NaN"
write_text (infinity s) = signed s (bytes "Infinity")
write_text (finite s e c) = signed s (magnitude (decimal c) e)

-- ---- the debug form

-- a digit below 16 in lower case
abbrev pub hex_digit : ℕ → ℕ
hex_digit n = cond (ltb n 10) (48 + n) (87 + n)

unfoldable pub hexes : List ℕ → List ℕ
hexes [] = []
hexes (b ∷ s) = hex_digit (b / 16) ∷ hex_digit (b % 16) ∷ hexes s

unfoldable pub debug_text : List ℕ → List ℕ
debug_text s = bytes "Decimal128(" ++ hexes s ++ bytes ")"
