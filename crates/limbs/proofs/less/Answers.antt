-- The highest limb in which the numbers differ decides.
use borrow.Author.Rules.{rules}
use mathlib.Core.Path.{◌≡◌, refl}
use Prim.Native.Nat.{ℕ}
use lib.ListN.{get_or}
use mir.Syntax.{w32}
use mir.Val.{Fits}
use Rattle.limbs.proofs.Laws.{value_four, same_limbs, highest, below}
use Rattle.limbs.proofs.less.Goals as goal

nothing : ◌≡◌ {A = ℕ} 0 0
nothing = refl

pub returns-then-a-b-3 : goal.returns-then-a-b-3
returns-then-a-b-3 c =
    let left : Fits w32 (get_or c.args.a 0 0) = search rules in
    let right : Fits w32 (get_or c.args.b 0 0) = search rules in
    let e = same_limbs c.if-a-b-2.false (same_limbs c.if-a-b.false nothing) in
    rw (value_four c.args.a (search rules), value_four c.args.b (search rules))
    (below left right (highest e c.if-a-b-3.true)).test
