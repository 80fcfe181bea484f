-- The order of two values, and the larger of two texts: IEEE 754-2008, 5.11, and ticket 3 of document 02.
use Rattle.std.specs.Prelude.{ℕ, ◌+◌, ◌-◌, ◌*◌, ◌^◌, min, Bool, true, false, cond, List, ltb, ℤ}
use Rattle.std.proofs.Math.IntN.ℤ.{pos, negsuc}
use Rattle.meaning.specs.Refusals.{number_of}
use Rattle.meaning.specs.Refusals.Refusal.{not_ordered}
use Rattle.meaning.specs.Decimal.{Decimal}
use Rattle.meaning.specs.Decimal.Decimal.{nan, infinity, finite}
use Rattle.meaning.specs.Reading.{Reading, read_text}
use Rattle.meaning.specs.Reading.Reading.{refused, accepted}

-- ---- two values

-- 5.11: four mutually exclusive relations are possible
pub data Relation : Type 0 where
  less equal greater unordered : Relation

-- of two whole numbers
unfoldable pub compared : ℕ → ℕ → Relation
compared m n = cond (ltb m n) less (cond (ltb n m) greater equal)

-- a signed number is what stands above zero less what stands below
abbrev pub above : Bool → ℕ → ℕ
above true n = 0
above false n = n

abbrev pub below : Bool → ℕ → ℕ
below true n = n
below false n = 0

-- p - q against r - s is p + s against r + q: the sign of a zero does not count
unfoldable pub signed : Bool → ℕ → Bool → ℕ → Relation
signed s m t n = compared (above s m + below t n) (above t n + below s m)

-- a·10^x as a whole number beside one with the exponent e (01, 'Reading text', after step 11)
abbrev pub scaled : ℕ → ℕ → ℕ → ℕ
scaled a x e = a * 10 ^ (x - min x e)

-- 5.11: a NaN is unordered; infinities of one sign are equal, and stand as ±1 to the 0 of any finite value
unfoldable pub relation : Decimal → Decimal → Relation
relation (nan s q) w = unordered
relation (infinity s) (nan t q) = unordered
relation (infinity s) (infinity t) = signed s 1 t 1
relation (infinity s) (finite t e c) = signed s 1 t 0
relation (finite s x a) (nan t q) = unordered
relation (finite s x a) (infinity t) = signed s 0 t 1
relation (finite s x a) (finite t e c) = signed s (scaled a x e) t (scaled c e x)

-- the comparison as a number: -1, 0 or 1
unfoldable pub order_given : Relation → ℤ
order_given less = negsuc 0
order_given equal = pos 0
order_given greater = pos 1
order_given unordered = pos 0

-- 0, or 11 with a NaN
unfoldable pub refusal_given : Relation → ℕ
refusal_given less = 0
refusal_given equal = 0
refusal_given greater = 0
refusal_given unordered = number_of not_ordered

-- ---- two texts

-- which of two lent texts is handed back; `neither` is an empty part of the first
pub data Choice : Type 0 where
  first second neither : Choice

-- the first when they are equal by value
abbrev pub choice_of : Relation → Choice
choice_of less = second
choice_of equal = first
choice_of greater = first
choice_of unordered = neither

abbrev pub chosen : Reading → Reading → Choice
chosen (refused r) q = neither
chosen (accepted v) (refused r) = neither
chosen (accepted v) (accepted w) = choice_of (relation v w)

unfoldable pub larger : List ℕ → List ℕ → Choice
larger a b = chosen (read_text a) (read_text b)
