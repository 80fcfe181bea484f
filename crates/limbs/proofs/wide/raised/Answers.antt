use native.Mathlib.Omega.{arith}
use Rattle.limbs.proofs.Shifts.{raised_less, raised_past, raised_far, raised_more}
use Rattle.limbs.proofs.wide.raised.Goals as goal

pub returns-then-cut-size : goal.returns-then-cut-size
returns-then-cut-size c n h = grind (arith, raised_less)

pub returns-then-x : goal.returns-then-x
returns-then-x c n h = grind (arith, raised_past)

pub returns-then-size-ge9223372036854775808 : goal.returns-then-size-ge9223372036854775808
returns-then-size-ge9223372036854775808 c n h = grind (arith, raised_far)

pub returns : goal.returns
returns c n h = grind (arith, raised_more)
