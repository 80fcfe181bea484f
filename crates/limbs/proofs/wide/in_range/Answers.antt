use native.Mathlib.Omega.{arith}
use Rattle.meaning.specs.Reading.{origin}
use Rattle.limbs.proofs.Exponents.{in_minus, in_plus}
use Rattle.limbs.proofs.wide.in_range.Goals as goal

pub returns-then-negative : goal.returns-then-negative
unfolding origin
returns-then-negative c = grind (arith, in_minus)

pub returns-else-negative : goal.returns-else-negative
unfolding origin
returns-else-negative c = grind (arith, in_plus)
