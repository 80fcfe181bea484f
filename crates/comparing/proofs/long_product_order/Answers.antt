use native.Mathlib.Omega.{arith}
use Rattle.comparing.proofs.Orders.{out_of_reach, nine_more, over_nine, last_product, over_last}
use Rattle.comparing.proofs.long_product_order.Goals as goal

pub returns-then-d-gt33 : goal.returns-then-d-gt33
returns-then-d-gt33 c = grind (arith, out_of_reach)

pub returns-in_default : goal.returns-in_default
returns-in_default c = grind (arith, over_nine)

pub nines-preserved : goal.nines-preserved
nines-preserved c = grind (arith, nine_more)

pub returns-in-Some-checked_multiply : goal.returns-in-Some-checked_multiply
returns-in-Some-checked_multiply c = grind (arith, last_product)

pub returns-in-None : goal.returns-in-None
returns-in-None c = grind (arith, over_last)
