use Rattle.limbs.proofs.Shifts.{refused_wrong, lowered_written}
use Rattle.limbs.proofs.wide.exponent_less.Goals as goal

pub returns-in-Some : goal.returns-in-Some
returns-in-Some c = lowered_written _ c.in-Some.e _ _ c.in-Some.ensures c.lowered.ensures

pub returns-in-None : goal.returns-in-None
returns-in-None c = refused_wrong _ _ c.in-None.ensures
