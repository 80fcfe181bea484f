-- A turn reads one digit, and leaves the rest to be read; k digits are below 10^k.
use native.Mathlib.Omega.{arith}
use Rattle.limbs.proofs.Exponents.{no_digit_taken, digit_fits, digit_taken}
use Rattle.limbs.proofs.wide.digits.Goals as goal

pub returns-then-not-is_ascii_digit : goal.returns-then-not-is_ascii_digit
returns-then-not-is_ascii_digit c = grind (arith, no_digit_taken c.args.s.now c.min-few.ensures c.loop-b-test.true c.loop-b.invariant.0)

pub overflow_mul-number : goal.overflow_mul-number
overflow_mul-number c = grind (arith, digit_fits c.args.s.now c.min-few.ensures c.loop-b-test.true c.loop-b.invariant.1)

pub overflow_add-number : goal.overflow_add-number
overflow_add-number c = grind (arith, digit_fits c.args.s.now c.min-few.ensures c.loop-b-test.true c.loop-b.invariant.1)

pub loop-b-preserved : goal.loop-b-preserved
loop-b-preserved c = grind (arith, digit_taken c.args.s.now c.min-few.ensures c.loop-b-test.true c.loop-b.invariant.0 c.loop-b.invariant.1)
