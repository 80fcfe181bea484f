-- `powers::power` meets its contract: the row is one of the table, whose rule is proved once.
use Rattle.limbs.specs.Powers.{table}
use Rattle.limbs.proofs.Rows.{power_of}
use Rattle.limbs.proofs.powers.power.Goals as goal

pub returns : goal.returns
unfolding table
returns c = power_of c.args.k c.requires
