-- How long a record is: at most 80 bytes with its LF.
use mathlib.Core.Path.{◌≡◌, refl}
use mathlib.Core.Logic.{⊎_elim}
use Prim.Native.Nat.{ℕ, ◌≤◌, ◌<◌}
use native.Mathlib.Omega.{arith}
use lib.Dec.{lit≤}
use lib.ListN.{length, length-append}
use borrow.Author.Tests.{le-leb, lt-leb}
use Rattle.meaning.specs.Refusals.{Refusal, number_of}
use Rattle.meaning.specs.Refusals.Refusal.{empty_exponent, invalid_exponent, invalid_coefficient, overflow, underflow, inexact_rounding, unparseable, malformed_bytes, no_room, line_too_long, not_ordered}
use Rattle.meaning.specs.Decimal.{Decimal, InRange}
use Rattle.meaning.specs.Layout.{bytes_of, encode}
use Rattle.meaning.specs.Reading.{Reading, bytes, read_at, origin, low, high, same, all_digits, all_zeros, holds, decimal_part, before, from, number, strip_zeros, exponent, some_digits, step2, step3, step4, step5, step6, step7, step8, step9, step10, step11}
use Rattle.meaning.specs.Reading.Reading.{refused, accepted}
use Rattle.meaning.specs.Writing.{write_text, magnitude, decimal, digits_before, hexes}
use Rattle.meaning.specs.Answers.{number_given}
use Rattle.meaning.specs.Stream.{record_text, unread, line_record}
use Rattle.meaning.specs.Promises.{RecordHasAtMost80, EightyIsMet}
use Rattle.meaning.proofs.Numbers.{le_or}
use Rattle.meaning.proofs.Digits.{few}
use Rattle.meaning.proofs.Bytes.{length-bytes_of}
use Rattle.meaning.proofs.Accepted.{reads_in_range}
use Rattle.meaning.proofs.Refused.{every_place_is_within, accepted_carries_zero}
use Rattle.meaning.proofs.Lengths.{text_has_at_most_42, length-hexes}

two_digits : (r : Refusal) → number_of r < 100
unfolding number_of
two_digits empty_exponent = omega arith
two_digits invalid_exponent = omega arith
two_digits invalid_coefficient = omega arith
two_digits overflow = omega arith
two_digits underflow = omega arith
two_digits inexact_rounding = omega arith
two_digits unparseable = omega arith
two_digits malformed_bytes = omega arith
two_digits no_room = omega arith
two_digits line_too_long = omega arith
two_digits not_ordered = omega arith

-- a refusal has a place of at most four digits, and what is accepted the place 0
record_length : (a : Reading) (p : ℕ) → p ≤ 4096 → ((v : Decimal) → a ≡ accepted v → InRange v × (p ≡ 0)) → length (record_text (record { reading = a; place = p })) ≤ 80
unfolding record_text number_given
record_length (refused r) p l h =
    simp length-append (omega (arith, few (number_of r) 1 (two_digits r), few p 3 (omega arith)))
record_length (accepted v) p l h =
    let k = h v refl in
    simp length-append
    (omega (arith, few 0 0 (omega arith), few p 0 (omega (arith, k.1)), length-hexes (bytes_of 16 (encode v)), length-bytes_of 16 (encode v), text_has_at_most_42 v k.0))

pub record_has_at_most_80 : RecordHasAtMost80
unfolding line_record
record_has_at_most_80 s =
    ⊎_elim
    (λ h. rw (le-leb (length s) 4096 h)
    (record_length (read_at s).reading (read_at s).place (omega (arith, every_place_is_within s)) (λ v e. (reads_in_range s v e, accepted_carries_zero s v e))))
    (λ h. rw (lt-leb (length s) 4096 h) (unfold unread decimal digits_before number_given number_of in lit≤ tt))
    (le_or (length s) 4096)

pub eighty_is_met : EightyIsMet
unfolding line_record record_text number_given bytes read_at origin low high same all_digits all_zeros holds decimal_part before from number strip_zeros exponent some_digits step2 step3 step4 step5 step6 step7 step8 step9 step10 step11 bytes_of encode write_text magnitude decimal digits_before hexes
eighty_is_met = (bytes "-9.999999999999999999999999999999999E-6143", refl)
