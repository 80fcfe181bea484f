use Rattle.limbs.proofs.Shifts.{narrowed}
use Rattle.limbs.proofs.wide.narrow.Goals as goal

pub returns : goal.returns
returns c n h = rw c.unwrap_or.ensures (narrowed c.args.negative _ n c.to_u64.result c.to_u64.ensures h)
