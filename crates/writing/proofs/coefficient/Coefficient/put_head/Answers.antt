use native.Mathlib.Omega.{arith}
use Rattle.limbs.specs.Value.{value}
use Rattle.meaning.specs.Writing.{decimal}
use Rattle.writing.proofs.Texts.{head_more, head_one}
use Rattle.writing.proofs.coefficient.Coefficient.put_head.Goals as goal

pub returns-then-self-gt1 : goal.returns-then-self-gt1
returns-then-self-gt1 c = rw (head_more (decimal (value c.args.self.limbs)) (omega (arith, c.args.self.sized.count))) c.put_pointed.ensures

pub returns-else-self-gt1 : goal.returns-else-self-gt1
returns-else-self-gt1 c = rw (head_one (decimal (value c.args.self.limbs)) (omega (arith, c.args.self.sized))) c.put.ensures
