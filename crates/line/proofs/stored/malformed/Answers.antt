use Rattle.line.proofs.Wrote.{wrote_same, malformed_is}
use Rattle.line.proofs.stored.malformed.Goals as goal

pub returns : goal.returns
returns c = wrote_same malformed_is c.put_known.ensures
