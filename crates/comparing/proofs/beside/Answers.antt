use native.Mathlib.Omega.{arith}
use Rattle.comparing.proofs.Signs.{second_nan, to_infinity}
use Rattle.comparing.proofs.beside.Goals as goal

pub returns-then-is_nan : goal.returns-then-is_nan
returns-then-is_nan c = grind (arith, second_nan)

pub returns : goal.returns
returns c = grind (arith, to_infinity)
