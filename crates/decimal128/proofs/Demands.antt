-- Demand 1, proved.
use mathlib.Core.Path.{◌≡◌, refl, sym, ap, ◌∙◌}
use mathlib.Core.Logic.{◌⊎◌, ⊎_elim}
use mathlib.Core.List.{List, ◌++◌}
use Prim.Native.Nat.{ℕ, ◌≤◌, ◌<◌}
use native.Mathlib.Omega.{arith}
use lib.ListN.{length, drop}
use borrow.Author.Tests.{le-leb, lt-leb}
use Rattle.meaning.specs.Answers.{number_given, bytes_given}
use Rattle.meaning.proofs.Numbers.{le_or}
use Rattle.meaning.proofs.Refused.{every_place_is_within, accepted_carries_zero}
use Rattle.std.specs.Prelude.{Result, Ok, Err, replicate}
use Rattle.writing.specs.declared.NoRoom.{NoRoom}
use Rattle.writing.specs.Put.{put_of, placed, Puts, no_room_error}
use Rattle.std.specs.Prelude.{IsOkAnd, IsErrAnd}
use Rattle.meaning.specs.Refusals.{number_of}
use Rattle.meaning.specs.Decimal.{Decimal}
use Rattle.meaning.specs.Layout.{bytes_of, encode}
use Rattle.meaning.specs.Reading.{Located, read_at}
use Rattle.meaning.specs.Reading.Reading.{refused, accepted}
use Rattle.reading.specs.declared.answer.Refused.{Refused}
use Rattle.reading.specs.Told.{named}
use Rattle.decimal128.specs.declared.Decimal128.{Decimal128}
use Rattle.decimal128.specs.Operations.{given, ReadAllows}
use Rattle.decimal128.specs.Demand1.{RefusedReadingIsZero, AcceptedReadingIsItsBytes, NoRoomExactly, NoRoomChangesNothing, AcceptedIsTheText}

pub refused_reading_is_zero : RefusedReadingIsZero
unfolding number_given bytes_given
refused_reading_is_zero text q f = (in_rattle, λ n out place g. (g.is ∙ rw f, g.at, rw g.at (every_place_is_within text), g.bytes ∙ rw f))
  where
    in_rattle : (r : Result Decimal128 Refused) → ReadAllows text r → (given r ≡ replicate 16 0)
        × IsErrAnd r (λ e. (number_of (named e.refusal) ≡ number_of q) × (e.place ≡ (read_at text).place) × (e.place ≤ length text))
    in_rattle (Ok d) a = absurd (let k : refused q ≡ accepted a.0 = sym f ∙ ap (λ (l : Located). l.reading) a.1 in cc)
    in_rattle (Err e) a =
        let k : refused q ≡ refused (named e.refusal) = sym f ∙ ap (λ (l : Located). l.reading) a in
        let same : named e.refusal ≡ q = (cc) in
        let place : e.place ≡ (read_at text).place = sym (ap (λ (l : Located). l.place) a) in
        (refl, (ap number_of same, place, rw place (every_place_is_within text)))

pub accepted_reading_is_its_bytes : AcceptedReadingIsItsBytes
unfolding number_given bytes_given
accepted_reading_is_its_bytes text v f = (in_rattle, λ n out place g. (g.is ∙ rw f, g.at ∙ accepted_carries_zero text v f, g.bytes ∙ rw f))
  where
    in_rattle : (r : Result Decimal128 Refused) → ReadAllows text r → IsOkAnd r (λ d. d.bytes ≡ bytes_of 16 (encode v))
    in_rattle (Ok d) a =
        let k : accepted v ≡ accepted a.0 = sym f ∙ ap (λ (l : Located). l.reading) a.1 in
        let same : a.0 ≡ v = (cc) in
        a.2 ∙ ap (λ (x : Decimal). bytes_of 16 (encode x)) same
    in_rattle (Err e) a = absurd (let k : accepted v ≡ refused (named e.refusal) = sym f ∙ ap (λ (l : Located). l.reading) a in cc)

-- with room, and without
module _ (text before : List ℕ) (r : Result ℕ NoRoom) (after : List ℕ) (k : Puts text before r after) where
  with_room : length text ≤ length before → (r ≡ Ok (length text)) × (after ≡ text ++ drop (length text) before)
  unfolding put_of placed
  with_room h =
      let f = le-leb (length text) (length before) h in (k.answer ∙ simp f, k.buffer ∙ simp f)

  without_room : length before < length text → (r ≡ Err no_room_error) × (after ≡ before)
  unfolding put_of placed
  without_room h =
      let f = lt-leb (length text) (length before) h in (k.answer ∙ simp f, k.buffer ∙ simp f)

  room_or_not : (length text ≤ length before) ⊎ (length before < length text)
  room_or_not = le_or (length text) (length before)

pub no_room_exactly : NoRoomExactly
no_room_exactly text before r after k = (
  λ e. ⊎_elim
      (λ h. absurd (let f = (with_room text before r after k h).0 in let z : ◌≡◌ {A = ℕ} 0 1 = cc in omega arith))
      (λ h. h)
      (room_or_not text before r after k),
  λ h. (without_room text before r after k h).0,
)

pub no_room_changes_nothing : NoRoomChangesNothing
no_room_changes_nothing text before r after k e =
    (without_room text before r after k ((no_room_exactly text before r after k).0 e)).1

pub accepted_is_the_text : AcceptedIsTheText
accepted_is_the_text text before r after n k e =
    ⊎_elim
    (λ h.
    let f = with_room text before r after k h in
    let m : n ≡ length text = (let g = f.0 in cc) in (m, rw m f.1))
    (λ h. absurd (let f = (without_room text before r after k h).0 in let z : ◌≡◌ {A = ℕ} 0 1 = cc in omega arith))
    (room_or_not text before r after k)
