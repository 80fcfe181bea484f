use Rattle.limbs.specs.Value.{value}
use Rattle.limbs.proofs.Laws.{Multiplied}
use Rattle.limbs.proofs.times.Given as goal

abbrev pub invariant-loop-i : goal.invariant-loop-i
invariant-loop-i l = Multiplied (value l.a) l.b l.i (value l.product)
