use native.Mathlib.Omega.{arith}
use Rattle.limbs.specs.Value.{value}
use Rattle.limbs.proofs.Exponents.{past_origin, in_range_lem}
use Rattle.limbs.proofs.Shifts.{lowered_out, lowered_minus, lowered_past, lowered_plus}
use Rattle.limbs.proofs.wide.lowered.Goals as goal

pub returns-in_default : goal.returns-in_default
returns-in_default c n h =
    lowered_out n (value c.args.e.size) c.args.f h c.if-e.true (past_origin (rw c.of_u64-by.ensures at c.in_default.ensures))

pub returns-then-not-in_range : goal.returns-then-not-in_range
returns-then-not-in_range c n h = grind (arith, lowered_out)

pub returns-then-e : goal.returns-then-e
returns-then-e c n h = grind (arith, lowered_minus n (value c.args.e.size) c.args.f h, in_range_lem)

pub returns-then-less : goal.returns-then-less
returns-then-less c n h = grind (arith, lowered_past)

pub returns-else-less : goal.returns-else-less
returns-else-less c n h = grind (arith, lowered_plus n (value c.args.e.size) c.args.f h)
