-- A turn reads one digit, and leaves the rest to be read; k digits are below 10^k.
use Prim.Native.Nat.{◌^◌, ◌<◌}
use Rattle.limbs.proofs.Exponents.{Spelling}
use Rattle.limbs.proofs.wide.digits.Given as goal

abbrev pub invariant-loop-b : goal.invariant-loop-b
invariant-loop-b l = Spelling l.s 0 l.b-index l.number × (l.number < 10 ^ l.b-index)
