use mathlib.Core.Path.{◌∙◌}
use native.Mathlib.Omega.{arith}
use borrow.Author.Rules.{rules}
use Rattle.limbs.specs.Value.{value}
use Rattle.meaning.specs.Writing.{decimal}
use Rattle.writing.proofs.Point.{point_in}
use Rattle.writing.proofs.Values.{sized_below, sized_limb, sized_digits}
use Rattle.writing.proofs.coefficient.Coefficient.put_pointed.Goals as goal

pub put_around-requires-clause-below : goal.put_around-requires-clause-below
put_around-requires-clause-below c =
    let n = c.args.self in
    rw (sized_limb n (search rules) c.if-self-le9.true) (sized_below n)

pub returns-then-self-le9 : goal.returns-then-self-le9
returns-then-self-le9 c =
    let n = c.args.self in
    c.put_around.ensures ∙ rw (sized_limb n (search rules) c.if-self-le9.true, sized_digits n)

pub put_digits-requires-clause-below : goal.put_digits-requires-clause-below
put_digits-requires-clause-below c = sized_below c.args.self

pub returns-else-self-le9 : goal.returns-else-self-le9
returns-else-self-le9 c =
    let n = c.args.self in
    point_in _ c.args.before (decimal (value c.args.self.limbs)) _ (omega (arith, n.sized.count)) (omega (arith, n.sized.count))
    (c.put_digits.ensures.all n.sized)
    c.put_point.ensures
