use mathlib.Core.Path.{◌≡◌}
use lib.ListN.{take}
use Rattle.meaning.specs.Writing.{hexes}
use Rattle.writing.specs.Written.{written}
use Rattle.writing.proofs.hex.put_hexes.Given as goal

abbrev pub invariant-loop-i : goal.invariant-loop-i
invariant-loop-i l = l.buf ≡ written l.at (hexes (take l.i l.fn.bytes)) l.initial.buf
