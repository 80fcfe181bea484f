use Rattle.reading.proofs.Pass.{Passing, Added}
use Rattle.reading.proofs.scan.scan_short.Given as goal

abbrev pub invariant-loop-at : goal.invariant-loop-at
invariant-loop-at l = Passing l.text l.start l.at l.found × Added l.text l.start l.at l.found
