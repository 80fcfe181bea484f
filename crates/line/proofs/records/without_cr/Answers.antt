use Rattle.line.proofs.Ends.{cr_stripped}
use Rattle.line.proofs.records.without_cr.Goals as goal

pub returns : goal.returns
returns c = rw c.unwrap_or.ensures (cr_stripped c.strip_suffix.result c.args.line c.strip_suffix.ensures.cases)
