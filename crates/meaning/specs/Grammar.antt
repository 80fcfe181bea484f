-- The finite texts and their values, apart from the steps of reading: document 01, 'Reading text', after step 11, and demand 3.
use Rattle.std.specs.Prelude.{ℕ, ◌+◌, ◌-◌, ◌*◌, ◌^◌, ◌≤◌, ◌<◌, min, ◌≡◌, ◌⊎◌, Bool, true, false, List, [], ◌∷◌, ◌++◌, map, length}
use Rattle.meaning.specs.Decimal.{Decimal}
use Rattle.meaning.specs.Decimal.Decimal.{nan, infinity, finite}
use Rattle.meaning.specs.Reading.{Reading, bytes, lower, all_digits, number, origin, low, high}
use Rattle.meaning.specs.Reading.Reading.{accepted}

-- ---- a text as its parts

-- a sign that may be left out
pub data Sign : Type 0 where
  none plus minus : Sign

abbrev pub sign_text : Sign → List ℕ
sign_text none = []
sign_text plus = 43 ∷ []
sign_text minus = 45 ∷ []

abbrev pub negative : Sign → Bool
negative none = false
negative plus = false
negative minus = true

-- the digits after the point, if there is one
pub data Fraction : Type 0 where
  no_point : Fraction
  point : List ℕ → Fraction

abbrev pub fraction_text : Fraction → List ℕ
fraction_text no_point = []
fraction_text (point s) = 46 ∷ s

abbrev pub after : Fraction → List ℕ
after no_point = []
after (point s) = s

-- the exponent part, if there is one: whether its letter is `E`, its sign, its digits
pub data Power : Type 0 where
  no_power : Power
  power : Bool → Sign → List ℕ → Power

abbrev pub letter : Bool → ℕ
letter true = 69
letter false = 101

abbrev pub power_text : Power → List ℕ
power_text no_power = []
power_text (power big s ds) = letter big ∷ sign_text s ++ ds

pub record FiniteText : Type 0 where
  pub sign : Sign
  pub whole : List ℕ
  pub fraction : Fraction
  pub power : Power

abbrev pub text_of : FiniteText → List ℕ
text_of t = sign_text t.sign ++ t.whole ++ fraction_text t.fraction ++ power_text t.power

abbrev pub digits_of : FiniteText → List ℕ
digits_of t = t.whole ++ after t.fraction

-- the digits read as one whole number
abbrev pub whole_of : FiniteText → ℕ
whole_of t = number 0 (digits_of t)

-- e is E + 2^127, where E is n, or -n with a minus, and stands from -2^127 to 2^127-1
abbrev pub SignedE : Bool → ℕ → ℕ → Type 0
SignedE true n e = e + n ≡ origin
SignedE false n e = (e ≡ origin + n) × (n < origin)

-- E by the exponent part: 0 where there is none
abbrev pub WrittenE : Power → ℕ → Type 0
WrittenE no_power e = e ≡ origin
WrittenE (power big g ds) e = (1 ≤ length ds) × (all_digits ds ≡ true) × SignedE (negative g) (number 0 ds) e

-- the text is by the grammar, and E and E-F are in range; x is E-F + 2^127
pub record Grammatical (t : FiniteText) (x : ℕ) : Type 0 where
  pub digits : all_digits (digits_of t) ≡ true
  pub some : 1 ≤ length (digits_of t)
  pub written : WrittenE t.power (x + length (after t.fraction))

-- ---- values

-- a·10^x and c·10^e are one value: compared over whole numbers, as 01 says
abbrev pub SameValue : ℕ → ℕ → ℕ → ℕ → Type 0
SameValue a x c e = a * 10 ^ (x - min x e) ≡ c * 10 ^ (e - min x e)

abbrev pub distance : ℕ → ℕ → ℕ
distance x e = (x - e) + (e - x)

-- c·10^e can be stored, and is the value a·10^x
pub record Stores (a x c e : ℕ) : Type 0 where
  pub small : c < 10 ^ 34
  pub above : low ≤ e
  pub below : e ≤ high
  pub same : SameValue a x c e

-- zero, or c·10^e with 1 ≤ c < 10^34 and e from -6176 to 6111
abbrev pub Storable : ℕ → ℕ → Type 0
Storable a x = (a ≡ 0) ⊎ ((c : ℕ) × (e : ℕ) × (1 ≤ c) × Stores a x c e)

-- accepted: the sign and the value are kept, and the exponent is the nearest to x that permits this
pub record Kept (sign : Bool) (a x : ℕ) (r : Reading) : Type 0 where
  pub coefficient : ℕ
  pub field : ℕ
  pub is : r ≡ accepted (finite sign field coefficient)
  pub stores : Stores a x coefficient (field + low)
  pub nearest : (c e : ℕ) → Stores a x c e → distance x (field + low) ≤ distance x e

-- ---- the special words

-- after the sign, in either case of its letters
pub data Word : List ℕ → Bool → Decimal → Type 0 where
  is_nan : {s : List ℕ} {sign : Bool} → map lower s ≡ bytes "nan" → Word s sign (nan sign false)
  is_snan : {s : List ℕ} {sign : Bool} → map lower s ≡ bytes "snan" → Word s sign (nan sign true)
  is_infinity : {s : List ℕ} {sign : Bool} → map lower s ≡ bytes "infinity" → Word s sign (infinity sign)
  is_inf : {s : List ℕ} {sign : Bool} → map lower s ≡ bytes "inf" → Word s sign (infinity sign)
