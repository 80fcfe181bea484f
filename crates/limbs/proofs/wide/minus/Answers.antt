use Rattle.limbs.proofs.Shifts.{minus_stands}
use Rattle.limbs.proofs.wide.minus.Goals as goal

pub returns : goal.returns
returns c = minus_stands c.args.f c.requires
