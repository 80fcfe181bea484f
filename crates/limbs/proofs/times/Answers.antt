use borrow.Author.Rules.{rules}
use native.Mathlib.Omega.{arith}
use Rattle.limbs.proofs.Laws.{one_more_fits, multiplied_more}
use Rattle.limbs.proofs.times.Goals as goal

pub times_limb-next-requires : goal.times_limb-next-requires
times_limb-next-requires c = grind (arith, one_more_fits)

pub loop-i-preserved : goal.loop-i-preserved
loop-i-preserved c = multiplied_more (omega arith) c.loop-i.invariant (search rules) c.times_limb-next.ensures
