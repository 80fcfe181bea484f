-- A turn reads one digit, and leaves the rest to be read.
use Rattle.limbs.specs.Value.{value}
use Rattle.limbs.proofs.Exponents.{Spelling}
use Rattle.limbs.proofs.wide.digits_on.Given as goal

abbrev pub invariant-loop-b : goal.invariant-loop-b
invariant-loop-b l = Spelling l.digits (value l.initial.number) l.b-index (value l.number)
