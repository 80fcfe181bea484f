use Rattle.line.proofs.Wrote.{wrote_same, long_text}
use Rattle.line.proofs.records.TextsRecord.too_long.Goals as goal

pub returns : goal.returns
returns c = λ p long. wrote_same (long_text p long) c.put_known.ensures
