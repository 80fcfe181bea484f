use native.Mathlib.Omega.{arith}
use Rattle.comparing.proofs.Signs.{first_nan, equals_itself}
use Rattle.comparing.proofs.itself.Goals as goal

pub returns-then-is_nan : goal.returns-then-is_nan
returns-then-is_nan c = grind (arith, first_nan)

pub returns : goal.returns
returns c = grind (arith, equals_itself)
