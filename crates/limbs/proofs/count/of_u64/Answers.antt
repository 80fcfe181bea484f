use native.Mathlib.Omega.{arith}
use Rattle.limbs.proofs.Counting.{log_counts, zero_length}
use Rattle.limbs.proofs.count.of_u64.Goals as goal

pub returns-in-Some-clause-digits : goal.returns-in-Some-clause-digits
returns-in-Some-clause-digits c = grind (arith, log_counts)

pub returns-in-None-clause-digits : goal.returns-in-None-clause-digits
returns-in-None-clause-digits c = zero_length c.args.v c.in-None.ensures.none
