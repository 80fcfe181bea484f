use Rattle.limbs.proofs.Counting.{counts_decimal}
use Rattle.limbs.proofs.count.digits.Goals as goal

pub returns-then-less-2 : goal.returns-then-less-2
returns-then-less-2 c = counts_decimal _ _ c.requires c.from.ensures

pub returns-else-less-2 : goal.returns-else-less-2
returns-else-less-2 c = counts_decimal _ _ c.requires c.from-else-less-2.ensures

pub returns-then-less-3 : goal.returns-then-less-3
returns-then-less-3 c = counts_decimal _ _ c.requires c.from-then-less-3.ensures

pub returns-else-less-3 : goal.returns-else-less-3
returns-else-less-3 c = counts_decimal _ _ c.requires c.from-else-less-3.ensures
