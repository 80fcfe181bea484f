use native.Mathlib.Omega.{arith}
use Rattle.decimal128.proofs.Frames.{front_put}
use Rattle.decimal128.proofs.framing.put_front.Goals as goal

pub returns : goal.returns
returns c = grind (arith, front_put)
