use native.Mathlib.Omega.{arith}
use Rattle.comparing.proofs.Signs.{zeros, apart}
use Rattle.comparing.proofs.opposite.Goals as goal
use Rattle.comparing.proofs.opposite.Goals.{else-is_zero-via-then-is_zero+else-is_zero-2, else-is_zero-via-else-is_zero}

pub returns-then-is_zero-2 : goal.returns-then-is_zero-2
returns-then-is_zero-2 c = grind (arith, zeros)

pub returns-else-is_zero : goal.returns-else-is_zero
returns-else-is_zero c = grind (arith, apart)
