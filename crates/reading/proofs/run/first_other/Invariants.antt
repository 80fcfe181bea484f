use Rattle.reading.proofs.Walk.{ZerosAt}
use Rattle.reading.proofs.run.first_other.Given as goal

abbrev pub invariant-loop-i : goal.invariant-loop-i
invariant-loop-i l = ZerosAt l.scan.found.point l.from l.to l.scan.text.now l.i
