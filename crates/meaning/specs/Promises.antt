-- The promises that are about the definitions alone, each as a statement. Where each is proved: docs/PROMISES.md.
use Rattle.std.specs.Prelude.{ℕ, ◌-◌, ◌^◌, ◌≤◌, ◌<◌, ◌≡◌, ◌⊎◌, ◌↔◌, true, false, ◌||◌, List, [], ◌∷◌, ◌++◌, map, eqb, length, drop, get_or}
use Rattle.std.proofs.Math.IntN.ℤ.{pos, negsuc}
use Rattle.meaning.specs.Refusals.{Refusal, number_of}
use Rattle.meaning.specs.Refusals.Refusal.{empty_exponent, invalid_exponent, invalid_coefficient, overflow, underflow, inexact_rounding, unparseable, malformed_bytes, no_room, line_too_long, not_ordered}
use Rattle.meaning.specs.Decimal.{Decimal, InRange}
use Rattle.meaning.specs.Decimal.Decimal.{nan, infinity, finite}
use Rattle.meaning.specs.Layout.{stored, bytes_of, decode, encode}
use Rattle.meaning.specs.Bits.{decode_bits, canonical, comes_back_as}
use Rattle.meaning.specs.Reading.{is_digit, lower, read_at, read_text}
use Rattle.meaning.specs.Reading.Reading.{refused, accepted}
use Rattle.meaning.specs.Writing.{write_text, debug_text}
use Rattle.meaning.specs.Answers.{number_given, bytes_given}
use Rattle.meaning.specs.Stream.{line_record}
use Rattle.meaning.specs.Rows.{Row, rows, row_of}
use Rattle.meaning.specs.Grammar.{Sign, FiniteText, Grammatical, Word, SameValue, Storable, Kept, sign_text, negative, text_of, whole_of}
use Rattle.meaning.specs.Order.{Relation, relation, order_given, refusal_given, larger}
use Rattle.meaning.specs.Order.Relation.{less, equal, greater, unordered}
use Rattle.meaning.specs.Order.Choice.{first, second, neither}

-- ---- the layout

-- the standard's account and 01's are one
abbrev pub TwoAccountsAgree : Type 0
TwoAccountsAgree = (n : ℕ) → decode n ≡ decode_bits n

abbrev pub DecodesWhatWasEncoded : Type 0
DecodesWhatWasEncoded = (v : Decimal) → InRange v → decode (encode v) ≡ v

abbrev pub EncodesExactlyTheCanonical : Type 0
EncodesExactlyTheCanonical = (n : ℕ) → n < 2 ^ 128 → (encode (decode n) ≡ n) ↔ (canonical n ≡ true)

-- every element is a byte
abbrev pub Bytes : List ℕ → Type 0
Bytes s = (i : ℕ) → get_or s i 0 < 256

-- 16 bytes are a number below 2^128, and are its bytes
abbrev pub SixteenBytesAreANumber : Type 0
SixteenBytesAreANumber = (b : List ℕ) → length b ≡ 16 → Bytes b → (stored b < 2 ^ 128) × (bytes_of 16 (stored b) ≡ b)

abbrev pub ANumberIsSixteenBytes : Type 0
ANumberIsSixteenBytes = (n : ℕ) → n < 2 ^ 128 → (length (bytes_of 16 n) ≡ 16) × (stored (bytes_of 16 n) ≡ n)

-- ---- reading

-- demand 3: accepted exactly when its value can be stored, which is then kept; else Overflow or InexactRounding
abbrev pub Demand3 : Type 0
Demand3 =
    (t : FiniteText) (x : ℕ) → Grammatical t x →
    (Storable (whole_of t) x × Kept (negative t.sign) (whole_of t) x (read_text (text_of t)))
    ⊎ ((Storable (whole_of t) x → ⊥) × ((read_text (text_of t) ≡ refused overflow) ⊎ (read_text (text_of t) ≡ refused inexact_rounding)))

-- a text of the grammar with E and E-F in range is refused by no other number
abbrev pub RefusedOnlyByValue : Type 0
RefusedOnlyByValue =
    (t : FiniteText) (x : ℕ) (r : Refusal) → Grammatical t x → read_text (text_of t) ≡ refused r →
    (r ≡ overflow) ⊎ (r ≡ inexact_rounding)

-- every accepted text is one of the grammar's or a special word with its sign
abbrev pub AcceptsOnlyTheGrammar : Type 0
AcceptsOnlyTheGrammar =
    (s : List ℕ) (v : Decimal) → read_text s ≡ accepted v →
    ((t : FiniteText) × (x : ℕ) × (s ≡ text_of t) × Grammatical t x)
    ⊎ ((g : Sign) × (w : List ℕ) × (s ≡ sign_text g ++ w) × Word w (negative g) v)

-- whatever the bytes, a refusal is one of 1 to 7
abbrev pub RefusesBy1To7 : Type 0
RefusesBy1To7 = (s : List ℕ) (r : Refusal) → read_text s ≡ refused r → number_of r ≤ 7

-- a place is an offset in the text, or its length
abbrev pub EveryPlaceIsWithin : Type 0
EveryPlaceIsWithin = (s : List ℕ) → (read_at s).place ≤ length s

-- a byte stands first, and P holds of it
abbrev pub Begins : (ℕ → Type 0) → List ℕ → Type 0
Begins P [] = ⊥
Begins P (b ∷ s) = P b

-- what stands from a place on: for 1 an `e`, for 3 a point, for 6 a byte other than `0`; for 7 neither a digit nor a point
abbrev pub Shows : Refusal → List ℕ → Type 0
Shows empty_exponent t = Begins (λ (b : ℕ). lower b ≡ 101) t
Shows invalid_exponent t = Unit {0}
Shows invalid_coefficient t = Begins (λ (b : ℕ). b ≡ 46) t
Shows overflow t = Unit {0}
Shows underflow t = Unit {0}
Shows inexact_rounding t = Begins (λ (b : ℕ). b ≡ 48 → ⊥) t
Shows unparseable [] = Unit {0}
Shows unparseable (b ∷ t) = (is_digit b || eqb b 46) ≡ false
Shows malformed_bytes t = Unit {0}
Shows no_room t = Unit {0}
Shows line_too_long t = Unit {0}
Shows not_ordered t = Unit {0}

abbrev pub EveryPlaceShowsWhy : Type 0
EveryPlaceShowsWhy = (s : List ℕ) (r : Refusal) → read_text s ≡ refused r → Shows r (drop (read_at s).place s)

-- 1, 3 and 6 name a byte that is there
abbrev pub NamesAByte : Refusal → Type 0
NamesAByte r = (r ≡ empty_exponent) ⊎ ((r ≡ invalid_coefficient) ⊎ (r ≡ inexact_rounding))

abbrev pub NamedBytesAreThere : Type 0
NamedBytesAreThere =
    (s : List ℕ) (r : Refusal) → read_text s ≡ refused r → NamesAByte r → (read_at s).place < length s

abbrev pub AcceptedCarriesZero : Type 0
AcceptedCarriesZero = (s : List ℕ) (v : Decimal) → read_text s ≡ accepted v → (read_at s).place ≡ 0

-- what is accepted is in range of the format
abbrev pub ReadsInRange : Type 0
ReadsInRange = (s : List ℕ) (v : Decimal) → read_text s ≡ accepted v → InRange v

-- ---- writing

abbrev pub TextHasAtMost42 : Type 0
TextHasAtMost42 = (v : Decimal) → InRange v → length (write_text v) ≤ 42

-- both notations reach it
abbrev pub FortyTwoIsMet : Type 0
FortyTwoIsMet = (length (write_text (finite true 6137 (10 ^ 34 - 1))) ≡ 42) × (length (write_text (finite true 0 (10 ^ 34 - 1))) ≡ 42)

abbrev pub DebugFormHas44 : Type 0
DebugFormHas44 = (s : List ℕ) → length s ≡ 16 → length (debug_text s) ≡ 44

abbrev pub RecordHasAtMost80 : Type 0
RecordHasAtMost80 = (s : List ℕ) → length (line_record s) ≤ 80

-- `-9.999..E-6143`
abbrev pub EightyIsMet : Type 0
EightyIsMet = (s : List ℕ) × (length (line_record s) ≡ 80)

-- ---- the round trip

-- a NaN is written with neither its sign nor its flag
abbrev pub plain_nan : Decimal → Decimal
plain_nan (nan s q) = nan false false
plain_nan (infinity s) = infinity s
plain_nan (finite s e c) = finite s e c

abbrev pub ReadsWhatWasWritten : Type 0
ReadsWhatWasWritten = (v : Decimal) → InRange v → read_text (write_text v) ≡ accepted (plain_nan v)

-- the same of stored bytes, canonical or not: what their text reads as is accepted, with the bytes that 01 says
abbrev pub StoredComesBack : Type 0
StoredComesBack =
    (b : List ℕ) → length b ≡ 16 → Bytes b →
    (number_given (read_text (write_text (decode (stored b)))) ≡ 0)
    × (bytes_given (read_text (write_text (decode (stored b)))) ≡ bytes_of 16 (comes_back_as (stored b)))

-- ---- order

abbrev pub NotNan : Decimal → Type 0
NotNan (nan s q) = ⊥
NotNan (infinity s) = Unit {0}
NotNan (finite s e c) = Unit {0}

-- unordered exactly with a NaN
abbrev pub OrderedUnlessNan : Type 0
OrderedUnlessNan = (v w : Decimal) → (relation v w ≡ unordered → ⊥) ↔ (NotNan v × NotNan w)

-- NotOrdered exactly with a NaN
abbrev pub RefusedWithANan : Type 0
RefusedWithANan = (v w : Decimal) → (refusal_given (relation v w) ≡ 0) ↔ (NotNan v × NotNan w)

abbrev pub OneOfThree : Type 0
OneOfThree = (r : Relation) → (order_given r ≡ negsuc 0) ⊎ ((order_given r ≡ pos 0) ⊎ (order_given r ≡ pos 1))

abbrev pub turned : Relation → Relation
turned less = greater
turned equal = equal
turned greater = less
turned unordered = unordered

-- antisymmetric
abbrev pub TurnsRound : Type 0
TurnsRound = (v w : Decimal) → relation w v ≡ turned (relation v w)

abbrev pub AtMost : Decimal → Decimal → Type 0
AtMost v w = (relation v w ≡ less) ⊎ (relation v w ≡ equal)

abbrev pub LessIsTransitive : Type 0
LessIsTransitive = (u v w : Decimal) → relation u v ≡ less → relation v w ≡ less → relation u w ≡ less

abbrev pub AtMostIsTransitive : Type 0
AtMostIsTransitive = (u v w : Decimal) → AtMost u v → AtMost v w → AtMost u w

-- equal values compare alike with every third
abbrev pub EqualsCompareAlike : Type 0
EqualsCompareAlike = (u v w : Decimal) → relation u v ≡ equal → relation u w ≡ relation v w

-- one infinity, or one number, whose sign counts unless it is zero
abbrev pub Same : Decimal → Decimal → Type 0
Same (nan s q) w = ⊥
Same (infinity s) (nan t q) = ⊥
Same (infinity s) (infinity t) = s ≡ t
Same (infinity s) (finite t e c) = ⊥
Same (finite s x a) (nan t q) = ⊥
Same (finite s x a) (infinity t) = ⊥
Same (finite s x a) (finite t e c) = SameValue a x c e × ((s ≡ t) ⊎ (a ≡ 0))

abbrev pub EqualIsSame : Type 0
EqualIsSame = (v w : Decimal) → (relation v w ≡ equal) ↔ Same v w

-- ---- the larger of two texts

-- the text is read as the value, which is no NaN
abbrev pub Counts : List ℕ → Decimal → Type 0
Counts s v = (read_text s ≡ accepted v) × NotNan v

-- none is greater than the one that is handed back: the first unless it is less
abbrev pub NoneIsGreater : Type 0
NoneIsGreater =
    (a b : List ℕ) (v w : Decimal) → Counts a v → Counts b w →
    ((larger a b ≡ first) × AtMost w v) ⊎ ((larger a b ≡ second) × (relation v w ≡ less))

-- an empty part exactly where a text is refused or a NaN
abbrev pub NeitherUnlessBothCount : Type 0
NeitherUnlessBothCount =
    (a b : List ℕ) → (larger a b ≡ neither → ⊥) ↔ (((v : Decimal) × Counts a v) × ((w : Decimal) × Counts b w))

-- ---- the table of edges

-- each row's answer, bytes and written text are what the definitions give for its text
abbrev pub EveryRowHolds : Type 0
EveryRowHolds = rows ≡ map (λ (r : Row). row_of r.text) rows
