use native.Mathlib.Omega.{arith}
use Rattle.comparing.proofs.Signs.{first_nan, second_nan, from_infinity, one_infinity, two_infinities}
use Rattle.comparing.proofs.special.Goals as goal
use Rattle.comparing.proofs.special.Goals.{then-is_nan-via-then-is_nan, then-is_nan-via-else-is_nan+then-is_nan-2}
use Rattle.comparing.proofs.special.Goals.{then-is_finite-via-then-is_finite, then-is_finite-via-else-is_finite+then-u-v}

pub returns-then-is_nan : goal.returns-then-is_nan
returns-then-is_nan c = grind (arith, first_nan, second_nan)

pub returns-then-is_finite : goal.returns-then-is_finite
returns-then-is_finite c = grind (arith, from_infinity, two_infinities)

pub returns : goal.returns
returns c = grind (arith, one_infinity)
