use mathlib.Core.Path.{◌≡◌, ◌∙◌}
use Prim.Native.Nat.{◌+◌, ◌-◌}
use native.Mathlib.Omega.{arith}
use Rattle.writing.proofs.Low.{before-below}
use Rattle.writing.proofs.Point.{around}
use Rattle.writing.proofs.digits.put_around.Goals as goal

pub put_front-requires-clause-below : goal.put_front-requires-clause-below
put_front-requires-clause-below c =
    let within : c.args.before + (c.args.count - c.args.before) ≡ c.args.count = omega arith in
    rw c.put_low-front.ensures.value (before-below (c.args.count - c.args.before) c.args.before c.args.count _ within c.requires.below)

pub returns : goal.returns
returns c =
    let low = c.put_low-front.ensures in
    around _ c.args.count c.args.before _ _ c.requires.within c.requires.room low.buf_after (c.put_front.ensures ∙ rw low.value)
