use Rattle.reading.proofs.Rows.{FewAt}
use Rattle.reading.proofs.run.push_few.Given as goal

abbrev pub invariant-loop-digit : goal.invariant-loop-digit
invariant-loop-digit l = FewAt l.digits l.digit-index l.sum l.zeros l.room
