use native.Mathlib.Omega.{arith}
use Rattle.comparing.proofs.Signs.{opposites, of_one_sign}
use Rattle.comparing.proofs.finite.Goals as goal

pub returns-then-negative-v : goal.returns-then-negative-v
returns-then-negative-v c = grind (arith, opposites)

pub returns : goal.returns
returns c = grind (arith, of_one_sign)
