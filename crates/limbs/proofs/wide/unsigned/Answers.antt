use native.Mathlib.Omega.{arith}
use Rattle.std.proofs.lemmas.List.{nil_from_length}
use Rattle.limbs.proofs.Exponents.{none_written, bad_written, large_written, is_written}
use Rattle.limbs.proofs.wide.unsigned.Goals as goal

pub returns-then-is_empty : goal.returns-then-is_empty
returns-then-is_empty c = grind (arith, nil_from_length, none_written)

pub returns-in_err-size : goal.returns-in_err-size
returns-in_err-size c = grind (arith, bad_written)

pub returns-then-in_range : goal.returns-then-in_range
returns-then-in_range c = grind (arith, is_written)

pub returns-else-in_range : goal.returns-else-in_range
returns-else-in_range c = grind (arith, large_written)
