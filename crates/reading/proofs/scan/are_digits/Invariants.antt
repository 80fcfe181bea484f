use mathlib.Core.Path.{◌≡◌}
use lib.ListN.{take}
use Rattle.meaning.specs.Reading.{all_digits}
use Rattle.reading.proofs.scan.are_digits.Given as goal

abbrev pub invariant-loop-b : goal.invariant-loop-b
invariant-loop-b l = l.all ≡ all_digits (take l.b-index l.bytes)
