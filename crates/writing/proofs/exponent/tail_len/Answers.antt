use Prim.Native.Nat.{◌-◌}
use Rattle.meaning.proofs.Digits.{few}
use native.Mathlib.Omega.{arith}
use Rattle.writing.proofs.Texts.{tail-above, tail-below, tail_none}
use Rattle.writing.proofs.exponent.tail_len.Goals as goal

pub returns-then-adjusted-gt6177 : goal.returns-then-adjusted-gt6177
returns-then-adjusted-gt6177 c = record {
  count = rw (tail-above _ c.if-adjusted-gt6177.true) (omega (arith, c.of_u64.ensures.digits));
  some = omega arith;
  few = omega (arith, c.of_u64.ensures.digits, few (c.args.adjusted - 6177) 3 (omega arith));
}

pub returns-then-adjusted-lt6177 : goal.returns-then-adjusted-lt6177
returns-then-adjusted-lt6177 c = record {
  count = rw (tail-below _ c.if-adjusted-lt6177.true) (omega (arith, c.of_u64-then-adjusted-lt6177.ensures.digits));
  some = omega arith;
  few = omega (arith, c.of_u64-then-adjusted-lt6177.ensures.digits, few (6177 - c.args.adjusted) 3 (omega arith));
}

pub returns-else-adjusted-lt6177 : goal.returns-else-adjusted-lt6177
returns-else-adjusted-lt6177 c = record { count = rw (tail_none c.args.adjusted (omega arith)); some = omega arith; few = omega arith }
