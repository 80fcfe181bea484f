use mathlib.Core.Path.{◌≡◌}
use lib.ListN.{take}
use Rattle.writing.specs.Written.{written}
use Rattle.writing.proofs.pieces.put_all.Given as goal

abbrev pub invariant-loop-i : goal.invariant-loop-i
invariant-loop-i l = l.buf ≡ written l.at (take l.i l.s) l.initial.buf
