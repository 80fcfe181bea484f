-- What the reader's answers tell.
use Rattle.std.specs.Prelude.{◌≡◌, Result, Ok, Err}
use Rattle.meaning.specs.Refusals.{Refusal}
use Rattle.meaning.specs.Refusals.Refusal.{empty_exponent, invalid_exponent, invalid_coefficient, overflow, underflow, inexact_rounding, unparseable}
use Rattle.meaning.specs.Reading.{Located, refused_at, accepted_as}
use Rattle.layout.specs.declared.Unpacked.{Unpacked}
use Rattle.layout.specs.Unpacked.{meant}
use Rattle.limbs.specs.declared.wide.ExponentError.{ExponentError}
use Rattle.limbs.specs.declared.wide.ExponentError.TheVariants as exponent
use Rattle.reading.specs.declared.answer.Refusal as reader
use Rattle.reading.specs.declared.answer.Refusal.TheVariants.{EmptyExponent, InvalidExponent, InvalidCoefficient, Overflow, Underflow, InexactRounding, Unparseable}
use Rattle.reading.specs.declared.answer.Refused.{Refused}

-- the refusal that the reader's one stands for
abbrev pub named : reader.Refusal → Refusal
named EmptyExponent = empty_exponent
named InvalidExponent = invalid_exponent
named InvalidCoefficient = invalid_coefficient
named Overflow = overflow
named Underflow = underflow
named InexactRounding = inexact_rounding
named Unparseable = unparseable

-- the reader's refusal of an exponent
abbrev pub refusal_of : ExponentError → reader.Refusal
refusal_of exponent.Invalid = InvalidExponent
refusal_of exponent.Underflow = Underflow

abbrev pub told : Result Unpacked Refused → Located
told (Ok value) = accepted_as (meant value)
told (Err e) = refused_at (named e.refusal) e.place

-- an answer tells what is read and the place; its value is in range and its count is true, as every unpacked one
pub record Gives (a : Located) (r : Result Unpacked Refused) : Type 0 where
  pub tells : told r ≡ a
