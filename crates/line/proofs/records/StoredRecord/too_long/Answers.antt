use Rattle.std.proofs.Common.{arith}
use Rattle.line.proofs.Wrote.{wrote_same, other_length}
use Rattle.line.proofs.records.StoredRecord.too_long.Goals as goal

pub returns : goal.returns
returns c = λ p long. wrote_same (other_length p (λ e. omega arith)) c.malformed.ensures
