-- What each public operation allows for an input: its result, and what stands in the lent buffer afterwards.
use Rattle.std.specs.Prelude.{ℕ, ◌≡◌, List, length, replicate, ℤ, ◌==◌, if◌then◌else◌, Result, Ok, Err}
use Rattle.std.specs.declared.cmp.Ordering.{Ordering}
use Rattle.std.specs.declared.cmp.Ordering.TheVariants.{Less, Equal, Greater}
use Rattle.std.proofs.Math.IntN.ℤ.{pos, negsuc}
use Rattle.meaning.specs.Refusals.{number_of}
use Rattle.meaning.specs.Refusals.Refusal.{malformed_bytes, no_room}
use Rattle.meaning.specs.Decimal.{Decimal}
use Rattle.meaning.specs.Layout.{stored, decode, bytes_of, encode}
use Rattle.meaning.specs.Reading.{accepted_as, refused_at, read_at, read_text}
use Rattle.meaning.specs.Writing.{write_text, debug_text}
use Rattle.meaning.specs.Answers.{number_given, bytes_given}
use Rattle.meaning.specs.Order.{Relation, relation, order_given, refusal_given}
use Rattle.meaning.specs.Order.Relation.{less, equal, greater, unordered}
use Rattle.meaning.specs.Stream.{record_text}
use Rattle.writing.specs.declared.NoRoom.{NoRoom}
use Rattle.writing.specs.Put.{put_of, placed, Puts}
use Rattle.reading.specs.declared.answer.Refused.{Refused}
use Rattle.reading.specs.Told.{named}
use Rattle.decimal128.specs.declared.MalformedBytes.{MalformedBytes}
use Rattle.decimal128.specs.declared.NotOrdered.{NotOrdered}
use Rattle.decimal128.specs.declared.Decimal128.{Decimal128}

-- ---- making, and taking apart

-- beside a refusal there are 16 zero bytes
abbrev pub given : {E : Type 0} → Result Decimal128 E → List ℕ
given (Ok d) = d.bytes
given (Err e) = replicate 16 0

abbrev pub FromBytesAllows : List ℕ → Decimal128 → Type 0
FromBytesAllows bytes r = r ≡ record { bytes = bytes }

abbrev pub BytesAllows : Decimal128 → List ℕ → Type 0
BytesAllows v r = r ≡ v.bytes

-- 16 bytes as they are; MalformedBytes for any other length
abbrev pub parsed : List ℕ → Result Decimal128 MalformedBytes
parsed s = if length s == 16 then Ok (record { bytes = s }) else Err (record {})

abbrev pub ParseAllows : List ℕ → Result Decimal128 MalformedBytes → Type 0
ParseAllows s r = r ≡ parsed s

-- ---- reading

-- a value is handed out as its bytes, a refusal as what it is and its place
abbrev pub ReadAllows : List ℕ → Result Decimal128 Refused → Type 0
ReadAllows text (Ok d) = (v : Decimal) × (read_at text ≡ accepted_as v) × (d.bytes ≡ bytes_of 16 (encode v))
ReadAllows text (Err e) = read_at text ≡ refused_at (named e.refusal) e.place

-- ---- writing: `Puts text before r after` says that text is put into the buffer whole, or NoRoom and not at all

abbrev pub WriteAllows : List ℕ → List ℕ → Result ℕ NoRoom → List ℕ → Type 0
WriteAllows bytes before r after = Puts (write_text (decode (stored bytes))) before r after

abbrev pub DebugAllows : List ℕ → List ℕ → Result ℕ NoRoom → List ℕ → Type 0
DebugAllows bytes before r after = Puts (debug_text bytes) before r after

abbrev pub RecordAllows : List ℕ → List ℕ → Result ℕ NoRoom → List ℕ → Type 0
RecordAllows text before r after = Puts (record_text (read_at text)) before r after

-- ---- comparing

abbrev pub compared_as : Relation → Result Ordering NotOrdered
compared_as less = Ok Less
compared_as equal = Ok Equal
compared_as greater = Ok Greater
compared_as unordered = Err (record {})

-- what the bytes mean is compared, canonical or not
abbrev pub stored_relation : List ℕ → List ℕ → Relation
stored_relation a b = relation (decode (stored a)) (decode (stored b))

abbrev pub CompareAllows : List ℕ → List ℕ → Result Ordering NotOrdered → Type 0
CompareAllows a b r = r ≡ compared_as (stored_relation a b)

-- the order as a number; beside a refusal it is 0
abbrev pub order_beside : Result Ordering NotOrdered → ℤ
order_beside (Ok Less) = negsuc 0
order_beside (Ok Equal) = pos 0
order_beside (Ok Greater) = pos 1
order_beside (Err e) = pos 0

-- ---- the paper's number and values of each case of a result

abbrev pub put_number : Result ℕ NoRoom → ℕ
put_number (Ok n) = 0
put_number (Err e) = number_of no_room

abbrev pub put_length : Result ℕ NoRoom → ℕ
put_length (Ok n) = n
put_length (Err e) = 0

abbrev pub parsed_number : Result Decimal128 MalformedBytes → ℕ
parsed_number (Ok d) = 0
parsed_number (Err e) = number_of malformed_bytes

-- ---- for C: the number is returned, the bytes, the place, the order and the length go through pointers

pub record ReadGives (text : List ℕ) (number : ℕ) (out : List ℕ) (place : ℕ) : Type 0 where
  pub is : number ≡ number_given (read_text text)
  pub bytes : out ≡ bytes_given (read_text text)
  pub at : place ≡ (read_at text).place

pub record ParseGives (s : List ℕ) (number : ℕ) (out : List ℕ) : Type 0 where
  pub is : number ≡ parsed_number (parsed s)
  pub bytes : out ≡ given (parsed s)

pub record PutGives (text before : List ℕ) (number len : ℕ) (after : List ℕ) : Type 0 where
  pub is : number ≡ put_number (put_of text before)
  pub length : len ≡ put_length (put_of text before)
  pub buffer : after ≡ placed text before

pub record CompareGives (a b : List ℕ) (number : ℕ) (order : ℤ) : Type 0 where
  pub is : number ≡ refusal_given (stored_relation a b)
  pub at : order ≡ order_given (stored_relation a b)
