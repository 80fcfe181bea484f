use mathlib.Core.Path.{◌≡◌}
use lib.ListN.{length}
use Rattle.meaning.specs.Reading.{number}
use Rattle.limbs.specs.Value.{value}
use Rattle.reading.specs.Run.{Row}
use Rattle.reading.proofs.run.push_row.Given as goal

abbrev pub invariant-loop-eight : goal.invariant-loop-eight
invariant-loop-eight l =
    Row l.rest (value l.acc) × (number (value l.acc) l.rest ≡ number (value l.fn.c) l.fn.digits)

abbrev pub decreases-loop-eight : goal.decreases-loop-eight
decreases-loop-eight l = length l.rest
