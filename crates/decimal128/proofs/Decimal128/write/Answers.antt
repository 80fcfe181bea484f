use native.Mathlib.Omega.{arith}
use Rattle.layout.specs.Unpacked.{meant}
use Rattle.decimal128.proofs.Decimal128.write.Goals as goal

pub returns : goal.returns
unfolding meant
returns c = grind arith
