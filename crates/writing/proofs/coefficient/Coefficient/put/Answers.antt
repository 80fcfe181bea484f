use Rattle.writing.proofs.Values.{sized_below}
use Rattle.writing.proofs.coefficient.Coefficient.put.Goals as goal

pub put_digits-requires-clause-below : goal.put_digits-requires-clause-below
put_digits-requires-clause-below c = sized_below c.args.self

pub returns : goal.returns
returns c = c.put_digits.ensures.all c.args.self.sized
