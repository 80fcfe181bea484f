-- Demand 1, over what the public operations allow.
use Rattle.std.specs.Prelude.{ℕ, ◌≤◌, ◌<◌, ◌≡◌, ◌↔◌, List, ◌++◌, length, drop, replicate, Result, Ok, Err, IsOkAnd, IsErrAnd}
use Rattle.meaning.specs.Refusals.{Refusal, number_of}
use Rattle.meaning.specs.Decimal.{Decimal}
use Rattle.meaning.specs.Layout.{bytes_of, encode}
use Rattle.meaning.specs.Reading.{read_at, read_text}
use Rattle.meaning.specs.Reading.Reading.{refused, accepted}
use Rattle.writing.specs.declared.NoRoom.{NoRoom}
use Rattle.writing.specs.Put.{Puts, no_room_error}
use Rattle.reading.specs.declared.answer.Refused.{Refused}
use Rattle.reading.specs.Told.{named}
use Rattle.decimal128.specs.declared.Decimal128.{Decimal128}
use Rattle.decimal128.specs.Operations.{given, ReadAllows, ReadGives}

-- a refused reading is its number, 16 zero bytes and its place, which lies in the text or is its length: in Rattle, where the
-- number is the error's, and for C
abbrev pub RefusedReadingIsZero : Type 0
RefusedReadingIsZero =
    (text : List ℕ) (q : Refusal) → read_text text ≡ refused q →
    ((r : Result Decimal128 Refused) → ReadAllows text r → (given r ≡ replicate 16 0)
    × IsErrAnd r (λ e. (number_of (named e.refusal) ≡ number_of q) × (e.place ≡ (read_at text).place) × (e.place ≤ length text)))
    × ((number : ℕ) (out : List ℕ) (place : ℕ) → ReadGives text number out place →
    (number ≡ number_of q) × (place ≡ (read_at text).place) × (place ≤ length text) × (out ≡ replicate 16 0))

-- an accepted reading is the bytes of its value, for C beside the number 0 and the place 0
abbrev pub AcceptedReadingIsItsBytes : Type 0
AcceptedReadingIsItsBytes =
    (text : List ℕ) (v : Decimal) → read_text text ≡ accepted v →
    ((r : Result Decimal128 Refused) → ReadAllows text r → IsOkAnd r (λ d. d.bytes ≡ bytes_of 16 (encode v)))
    × ((number : ℕ) (out : List ℕ) (place : ℕ) → ReadGives text number out place →
    (number ≡ 0) × (place ≡ 0) × (out ≡ bytes_of 16 (encode v)))

-- of every operation that puts a text into a lent buffer (`WriteAllows`, `DebugAllows` and `RecordAllows` are `Puts`):
-- NoRoom exactly where the buffer is shorter than the text
abbrev pub NoRoomExactly : Type 0
NoRoomExactly =
    (text before : List ℕ) (r : Result ℕ NoRoom) (after : List ℕ) → Puts text before r after → (r ≡ Err no_room_error) ↔ (length before < length text)

-- a refused writing changes no byte
abbrev pub NoRoomChangesNothing : Type 0
NoRoomChangesNothing =
    (text before : List ℕ) (r : Result ℕ NoRoom) (after : List ℕ) → Puts text before r after → r ≡ Err no_room_error → after ≡ before

-- an accepted writing is the text, with its length, and then the bytes that stood there
abbrev pub AcceptedIsTheText : Type 0
AcceptedIsTheText =
    (text before : List ℕ) (r : Result ℕ NoRoom) (after : List ℕ) (n : ℕ) → Puts text before r after → r ≡ Ok n →
    (n ≡ length text) × (after ≡ text ++ drop n before)
