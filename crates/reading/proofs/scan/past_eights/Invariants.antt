use lib.ListN.{length}
use Rattle.reading.proofs.Rows.{Passed}
use Rattle.reading.proofs.scan.past_eights.Given as goal

abbrev pub invariant-loop-eight : goal.invariant-loop-eight
invariant-loop-eight l = Passed l.text l.from l.rest

abbrev pub decreases-loop-eight : goal.decreases-loop-eight
decreases-loop-eight l = length l.rest
