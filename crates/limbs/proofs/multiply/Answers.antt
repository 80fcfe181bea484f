use native.Mathlib.Omega.{arith}
use Rattle.limbs.proofs.Laws.{value_four, value_product}
use Rattle.limbs.proofs.multiply.Goals as goal

pub returns : goal.returns
returns c = grind (arith, value_four, value_product)
