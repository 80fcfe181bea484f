-- A turn reads one digit, and leaves the rest to be read.
use native.Mathlib.Omega.{arith}
use Rattle.limbs.proofs.Exponents.{spelling_goes_on, no_digit_here, too_large_here, all_spelt}
use Rattle.limbs.proofs.wide.digits_on.Goals as goal

pub returns-then-not-is_ascii_digit : goal.returns-then-not-is_ascii_digit
returns-then-not-is_ascii_digit c = grind (arith, no_digit_here c.loop-b.invariant)

pub returns-in_err-number : goal.returns-in_err-number
returns-in_err-number c = grind (arith, too_large_here c.loop-b.invariant)

pub loop-b-preserved : goal.loop-b-preserved
loop-b-preserved c = grind (arith, spelling_goes_on c.loop-b.invariant)

pub returns : goal.returns
returns c = grind (arith, all_spelt c.loop-b.invariant)
