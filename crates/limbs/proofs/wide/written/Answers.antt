use native.Mathlib.Omega.{arith}
use Rattle.std.proofs.lemmas.List.{take_rest}
use Rattle.limbs.proofs.Exponents.{after_minus, after_plus, after_none, nothing_written}
use Rattle.limbs.proofs.wide.written.Goals as goal

pub returns-in_err-first : goal.returns-in_err-first
returns-in_err-first c = grind (arith, nothing_written)

pub returns-in-45 : goal.returns-in-45
returns-in-45 c = rw (after_minus c.args.s.now c.in_ok-first.ensures.value c.in-45.is) (rw take_rest at c.unsigned.ensures)

pub returns-in-43 : goal.returns-in-43
returns-in-43 c = rw (after_plus c.args.s.now c.in_ok-first.ensures.value c.in-43.is) (rw take_rest at c.unsigned-in-43.ensures)

pub returns-in_default : goal.returns-in_default
returns-in_default c = grind (arith, after_none)
