-- What a text reads as: document 01, 'Reading text', steps 1 to 11, which are the rules of MongoDB's specification
-- source/bson-decimal128, 'From String Representation', in the order in which they are carried out. And where it is refused:
-- document 02, ticket 2.
--
-- A text is the list of its bytes, whatever they are. A step's definition ends by calling the next step's, so the file has
-- them from the last to the first. No number here is negative: an exponent x stands as x + 2^127.
use Rattle.std.specs.Prelude.{ℕ, ◌+◌, ◌-◌, ◌*◌, ◌^◌, min, max, Bool, true, false, cond, ◌&&◌, ◌||◌, List, [], ◌∷◌, ◌++◌, map, length, take, drop, replicate, eqb, leb, ltb}
use Prim.Native.String.{String}
use Prim.Native.Char.{code}
use Rattle.meaning.specs.Refusals.{Refusal}
use Rattle.meaning.specs.Refusals.Refusal.{empty_exponent, invalid_exponent, invalid_coefficient, overflow, underflow, inexact_rounding, unparseable}
use Rattle.meaning.specs.Decimal.{Decimal}
use Rattle.meaning.specs.Decimal.Decimal.{nan, infinity, finite}

pub data Reading : Type 0 where
  refused : Refusal → Reading
  accepted : Decimal → Reading

-- a reading, and the place of a refusal
pub record Located : Type 0 where
  pub reading : Reading
  pub place : ℕ

abbrev pub refused_at : Refusal → ℕ → Located
refused_at r p = record { reading = refused r; place = p }

-- accepted carries 0
abbrev pub accepted_as : Decimal → Located
accepted_as v = record { reading = accepted v; place = 0 }

-- the exponents 0, -6176 and 6111
unfoldable pub origin : ℕ
origin = 2 ^ 127

unfoldable pub low : ℕ
low = 2 ^ 127 - 6176

unfoldable pub high : ℕ
high = 2 ^ 127 + 6111

-- ---- bytes and runs of bytes

-- the bytes of a quoted text
unfoldable pub bytes : String → List ℕ
bytes String.[] = []
bytes (String.◌∷◌ c s) = code c ∷ bytes s

abbrev pub is_digit : ℕ → Bool
is_digit b = leb 48 b && leb b 57

-- A to Z as a to z
abbrev pub lower : ℕ → ℕ
lower b = cond (leb 65 b && leb b 90) (b + 32) b

unfoldable pub same : List ℕ → List ℕ → Bool
same [] [] = true
same [] (y ∷ t) = false
same (x ∷ s) [] = false
same (x ∷ s) (y ∷ t) = eqb x y && same s t

unfoldable pub all_digits : List ℕ → Bool
all_digits [] = true
all_digits (b ∷ s) = is_digit b && all_digits s

unfoldable pub all_zeros : List ℕ → Bool
all_zeros [] = true
all_zeros (b ∷ s) = eqb b 48 && all_zeros s

unfoldable pub holds : ℕ → List ℕ → Bool
holds b [] = false
holds b (x ∷ s) = eqb x b || holds b s

-- the bytes before the first b, and those from it on
unfoldable pub before : ℕ → List ℕ → List ℕ
before b [] = []
before b (x ∷ s) = cond (eqb x b) [] (x ∷ before b s)

unfoldable pub from : ℕ → List ℕ → List ℕ
from b [] = []
from b (x ∷ s) = cond (eqb x b) (x ∷ s) (from b s)

-- the whole number that digits write, after those that wrote n
unfoldable pub number : ℕ → List ℕ → ℕ
number n [] = n
number n (b ∷ s) = number (n * 10 + (b - 48)) s

unfoldable pub strip_zeros : List ℕ → List ℕ
strip_zeros [] = []
strip_zeros (b ∷ s) = cond (eqb b 48) (strip_zeros s) (b ∷ s)

-- a run without its last d bytes, and those
abbrev pub kept : ℕ → List ℕ → List ℕ
kept d run = take (length run - d) run

abbrev pub lost : ℕ → List ℕ → List ℕ
lost d run = drop (length run - d) run

-- the bytes after the first point, of which there are F
abbrev pub fraction : List ℕ → List ℕ
fraction dec = drop 1 (from 46 dec)

-- the run of step 7: the first point and the leading zeros are gone
abbrev pub run_of : List ℕ → List ℕ
run_of dec = strip_zeros (before 46 dec ++ fraction dec)

-- ---- the places: offsets in the text as it was given, its sign counted, in the words of document 02, ticket 2

-- 1: the `e`
unfoldable pub the_e : List ℕ → ℕ
the_e text = length (before 101 (map lower text))

-- 2: the byte after the `e`. 4 and 5: that, or the text's length when there is none
unfoldable pub after_e : List ℕ → ℕ
after_e text = cond (holds 101 (map lower text)) (the_e text + 1) (length text)

unfoldable pub sign_length : List ℕ → ℕ
sign_length [] = 0
sign_length (b ∷ s) = cond (eqb b 45 || eqb b 43) 1 0

-- the decimal part: after the sign, up to the `e` or to the end
abbrev pub decimal_of : List ℕ → List ℕ
decimal_of text = drop (sign_length text) (before 101 (map lower text))

-- 3: the second point
unfoldable pub second_point : List ℕ → ℕ
second_point text = sign_length text + length (before 46 (decimal_of text)) + 1 + length (before 46 (fraction (decimal_of text)))

-- how many digits and points there are before the first other byte, or the end
unfoldable pub plain_bytes : List ℕ → ℕ
plain_bytes [] = 0
plain_bytes (b ∷ s) = cond (is_digit b || eqb b 46) (1 + plain_bytes s) 0

-- 7: the first wrong byte of the decimal part, or its end if only a digit is missing
unfoldable pub wrong_byte : List ℕ → ℕ
wrong_byte text = sign_length text + plain_bytes (decimal_of text)

-- where the last k bytes of a decimal part begin, its first point not counted
unfoldable pub last_bytes : ℕ → List ℕ → ℕ
last_bytes k dec =
    cond (leb k (length (fraction dec))) (length dec - k) (length (before 46 dec) + length (fraction dec) - k)

-- 6: the first byte other than `0` among those cut, where the first n of the run are kept; a step that refuses cuts one
unfoldable pub first_cut : ℕ → List ℕ → ℕ
first_cut n text = sign_length text + last_bytes (length (strip_zeros (drop n (run_of (decimal_of text))))) (decimal_of text)

-- ---- the steps; `text` is the text as it was given, `sign` says whether it begins with `-`, `x` is step 6's x, `run` is what
-- is left of the decimal part

-- 11: the run still holds a point
unfoldable pub step11 : List ℕ → Bool → ℕ → List ℕ → Located
step11 text sign x run =
    cond (holds 46 run) (refused_at invalid_coefficient (second_point text)) (accepted_as (finite sign (x - low) (number 0 run)))

-- 10: x above 6111
unfoldable pub step10 : List ℕ → Bool → ℕ → List ℕ → Located
step10 text sign x run =
    cond (leb x high)
    (step11 text sign x run)
    (cond (leb (length run + (x - high)) 34)
    (step11 text sign high (run ++ replicate (x - high) 48))
    (refused_at overflow (after_e text)))

-- 9: x below -6176
unfoldable pub step9 : List ℕ → Bool → ℕ → List ℕ → Located
step9 text sign x run =
    cond (leb low x)
    (step10 text sign x run)
    (cond (leb (low - x) (length run))
    (cond (all_zeros (lost (low - x) run))
    (step10 text sign low (kept (low - x) run))
    (refused_at inexact_rounding (first_cut (length run - (low - x)) text)))
    (refused_at overflow (after_e text)))

-- 8: a run longer than 34
unfoldable pub step8 : List ℕ → Bool → ℕ → List ℕ → Located
step8 text sign x run =
    cond (leb (length run) 34)
    (step9 text sign x run)
    (cond (all_zeros (drop 34 run))
    (step9 text sign (x + (length run - 34)) (take 34 run))
    (refused_at inexact_rounding (first_cut 34 text)))

-- 7: the leading zeros are gone; where nothing is left the run is `0`
unfoldable pub step7 : List ℕ → Bool → ℕ → List ℕ → Located
step7 text sign x [] = accepted_as (finite sign (min (max x low) high - low) 0)
step7 text sign x (b ∷ s) = step8 text sign x (b ∷ s)

-- 6: x = E-F, and the first point is removed; e is E
unfoldable pub step6 : List ℕ → Bool → List ℕ → ℕ → Located
step6 text sign dec e =
    cond (leb (length (fraction dec)) e)
    (step7 text sign (e - length (fraction dec)) (run_of dec))
    (refused_at underflow (after_e text))

-- a written exponent, where it is one
pub data Written : Type 0 where
  written : ℕ → Written
  wrong : Written

-- one or more digits
unfoldable pub some_digits : List ℕ → Bool
some_digits [] = false
some_digits (b ∷ s) = all_digits (b ∷ s)

abbrev pub upward : List ℕ → Written
upward s = cond (some_digits s && ltb (number 0 s) origin) (written (origin + number 0 s)) wrong

abbrev pub downward : List ℕ → Written
downward s = cond (some_digits s && leb (number 0 s) origin) (written (origin - number 0 s)) wrong

-- at most one sign, then one or more digits, from -2^127 to 2^127-1
unfoldable pub exponent : List ℕ → Written
exponent [] = wrong
exponent (b ∷ s) = cond (eqb b 45) (downward s) (cond (eqb b 43) (upward s) (upward (b ∷ s)))

-- 5: the exponent part
unfoldable pub step5 : List ℕ → Bool → List ℕ → Written → Located
step5 text sign dec wrong = refused_at invalid_exponent (after_e text)
step5 text sign dec (written e) = step6 text sign dec e

-- only digits and points, with at least one digit; seen: there was one before
unfoldable pub decimal_part : Bool → List ℕ → Bool
decimal_part seen [] = seen
decimal_part seen (b ∷ s) = cond (is_digit b) (decimal_part true s) (cond (eqb b 46) (decimal_part seen s) false)

-- 4: the decimal part
unfoldable pub step4 : List ℕ → Bool → List ℕ → Written → Located
step4 text sign dec e = cond (decimal_part false dec) (step5 text sign dec e) (refused_at unparseable (wrong_byte text))

-- 3: split at the first `e`; the third argument is what stands from it on
unfoldable pub step3 : List ℕ → Bool → List ℕ → List ℕ → Located
step3 text sign dec [] = step4 text sign dec (written origin)
step3 text sign dec (e ∷ []) = refused_at empty_exponent (the_e text)
step3 text sign dec (e ∷ b ∷ s) = step4 text sign dec (exponent (b ∷ s))

-- 2: the special texts
unfoldable pub step2 : List ℕ → Bool → List ℕ → Located
step2 text sign t =
    cond (same t (bytes "nan"))
    (accepted_as (nan sign false))
    (cond (same t (bytes "snan"))
    (accepted_as (nan sign true))
    (cond (same t (bytes "infinity") || same t (bytes "inf"))
    (accepted_as (infinity sign))
    (step3 text sign (before 101 t) (from 101 t))))

-- 1: one leading sign is removed, and letters A to Z count as a to z
unfoldable pub read_at : List ℕ → Located
read_at [] = step2 [] false []
read_at (b ∷ s) =
    cond (eqb b 45)
    (step2 (b ∷ s) true (map lower s))
    (cond (eqb b 43) (step2 (b ∷ s) false (map lower s)) (step2 (b ∷ s) false (map lower (b ∷ s))))

-- the reading alone
abbrev pub read_text : List ℕ → Reading
read_text text = (read_at text).reading
