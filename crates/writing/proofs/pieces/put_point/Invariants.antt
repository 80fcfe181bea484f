use mathlib.Core.Path.{◌≡◌}
use Prim.Native.Nat.{◌+◌}
use lib.ListN.{take, drop}
use Rattle.writing.specs.Written.{written}
use Rattle.writing.proofs.pieces.put_point.Given as goal

abbrev pub invariant-loop-i : goal.invariant-loop-i
invariant-loop-i l = l.buf ≡ written l.at (take l.i (drop (l.at + 1) l.initial.buf)) l.initial.buf
