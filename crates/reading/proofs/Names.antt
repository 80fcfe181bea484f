-- The names and the numbers of refusals: each other's inverse, and the reader's among them.
use mathlib.Core.Path.{◌≡◌, refl}
use mathlib.Core.Bool.{cond}
use Prim.Native.Nat.{ℕ, zero, suc, ◌≤◌, ◌<◌}
use native.Mathlib.Omega.{arith}
use lib.Dec.{eqb, lit<}
use denote.Enum.Declared.{tag_of}
use Rattle.meaning.specs.Refusals as meaning
use Rattle.meaning.specs.Refusals.{number_of}
use Rattle.meaning.specs.Refusals.Refusal.{empty_exponent, invalid_exponent, invalid_coefficient, overflow, underflow, inexact_rounding, unparseable, malformed_bytes, no_room, line_too_long, not_ordered}
use Rattle.reading.specs.declared.answer.Refusal.{Refusal}
use Rattle.reading.specs.declared.answer.Refusal.TheVariants.{EmptyExponent, InvalidExponent, InvalidCoefficient, Overflow, Underflow, InexactRounding, Unparseable}
use Rattle.reading.specs.contracts.answer.Refusal.{the_type}
use Rattle.reading.specs.Told.{named}

-- the refusal of a number
pub name_at : ℕ → meaning.Refusal
name_at n = cond (eqb n 1) empty_exponent (cond (eqb n 2) invalid_exponent (cond (eqb n 3) invalid_coefficient (cond (eqb n 4) overflow (cond (eqb n 5) underflow (cond (eqb n 6) inexact_rounding (cond (eqb n 7) unparseable (cond (eqb n 8) malformed_bytes (cond (eqb n 9) no_room (cond (eqb n 10) line_too_long not_ordered)))))))))

pub name_of : (r : meaning.Refusal) → name_at (number_of r) ≡ r
unfolding name_at number_of
name_of empty_exponent = refl
name_of invalid_exponent = refl
name_of invalid_coefficient = refl
name_of overflow = refl
name_of underflow = refl
name_of inexact_rounding = refl
name_of unparseable = refl
name_of malformed_bytes = refl
name_of no_room = refl
name_of line_too_long = refl
name_of not_ordered = refl

pub number_of_lem : (n : ℕ) → 0 < n → n ≤ 10 → number_of (name_at n) ≡ n
unfolding name_at number_of
number_of_lem zero h l = absurd (omega arith)
number_of_lem (suc zero) h l = refl
number_of_lem (suc (suc zero)) h l = refl
number_of_lem (suc (suc (suc zero))) h l = refl
number_of_lem (suc (suc (suc (suc zero)))) h l = refl
number_of_lem (suc (suc (suc (suc (suc zero))))) h l = refl
number_of_lem (suc (suc (suc (suc (suc (suc zero)))))) h l = refl
number_of_lem (suc (suc (suc (suc (suc (suc (suc zero))))))) h l = refl
number_of_lem (suc (suc (suc (suc (suc (suc (suc (suc zero)))))))) h l = refl
number_of_lem (suc (suc (suc (suc (suc (suc (suc (suc (suc zero))))))))) h l = refl
number_of_lem (suc (suc (suc (suc (suc (suc (suc (suc (suc (suc zero)))))))))) h l = refl
number_of_lem (suc (suc (suc (suc (suc (suc (suc (suc (suc (suc (suc n))))))))))) h l = absurd (omega arith)

-- no refusal has the number 0
pub number_some : (r : meaning.Refusal) → 0 < number_of r
unfolding number_of
number_some empty_exponent = lit< tt
number_some invalid_exponent = lit< tt
number_some invalid_coefficient = lit< tt
number_some overflow = lit< tt
number_some underflow = lit< tt
number_some inexact_rounding = lit< tt
number_some unparseable = lit< tt
number_some malformed_bytes = lit< tt
number_some no_room = lit< tt
number_some line_too_long = lit< tt
number_some not_ordered = lit< tt

-- the reader's refusals have the names of their numbers, at which they stand in the enum
pub named_at : (r : Refusal) → named r ≡ name_at (suc (tag_of the_type r))
unfolding name_at
named_at EmptyExponent = refl
named_at InvalidExponent = refl
named_at InvalidCoefficient = refl
named_at Overflow = refl
named_at Underflow = refl
named_at InexactRounding = refl
named_at Unparseable = refl

-- what the reader calls a refusal; for one that it never gives any name does
pub called : meaning.Refusal → Refusal
called empty_exponent = EmptyExponent
called invalid_exponent = InvalidExponent
called invalid_coefficient = InvalidCoefficient
called overflow = Overflow
called underflow = Underflow
called inexact_rounding = InexactRounding
called unparseable = Unparseable
called malformed_bytes = Unparseable
called no_room = Unparseable
called line_too_long = Unparseable
called not_ordered = Unparseable

pub called-named : (r : Refusal) → called (named r) ≡ r
unfolding called
called-named EmptyExponent = refl
called-named InvalidExponent = refl
called-named InvalidCoefficient = refl
called-named Overflow = refl
called-named Underflow = refl
called-named InexactRounding = refl
called-named Unparseable = refl
