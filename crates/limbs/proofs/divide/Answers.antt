use borrow.Author.Rules.{rules}
use mathlib.Core.Path.{sym, ◌∙◌}
use native.Mathlib.Omega.{arith}
use Rattle.limbs.proofs.Laws.{longer, divides, value_four}
use Rattle.limbs.proofs.divide.Goals as goal

pub returns : goal.returns
returns c =
    divides
    (longer _ _ _ _ _ _ _
    (longer _ _ _ _ _ _ _
    (longer _ _ _ _ _ _ _
    (longer c.args.by 0 0 0 _ _ _ (omega arith) c.divide_limb-q3.ensures.0)
    c.divide_limb-q2.ensures.0)
    c.divide_limb-q1.ensures.0)
    c.divide_limb-q0.ensures.0
    ∙ sym (value_four c.args.a (search rules)))
    c.divide_limb-q0.ensures.1
