use mathlib.Core.Path.{◌≡◌}
use native.Mathlib.Omega.{arith}
use lib.ListN.{length}
use Rattle.reading.proofs.Rows.{few_none, few-bounds, few-more, room-most, few_end}
use Rattle.reading.proofs.run.push_few.Goals as goal

pub loop-digit-init : goal.loop-digit-init
loop-digit-init c = few_none c.args.digits.now

pub overflow_mul-sum : goal.overflow_mul-sum
overflow_mul-sum c =
    omega (arith, few-bounds _ _ _ _ _ _ c.requires.row c.requires.few c.loop-digit.invariant c.loop-digit-test.true)

pub overflow_add-zeros : goal.overflow_add-zeros
overflow_add-zeros c =
    omega (arith, c.from-in-loop-digit.ensures, few-bounds _ _ _ _ _ _ c.requires.row c.requires.few c.loop-digit.invariant c.loop-digit-test.true)

pub loop-digit-preserved : goal.loop-digit-preserved
loop-digit-preserved c =
    rw (c.from.ensures, c.from-in-loop-digit.ensures)
    (few-more _ _ _ _ _ _ c.requires.row c.requires.few c.loop-digit.invariant c.loop-digit-test.true)

pub returns : goal.returns
returns c =
    let all : c.loop-digit.digit-index ≡ length c.args.digits.now = omega arith in
    let most = room-most _ _ _ _ _ _ c.requires.row c.requires.few c.loop-digit.invariant (omega (arith, c.requires.few)) in
    few_end _ _ _ _ _ _ c.requires.row c.requires.few c.loop-digit.invariant all _ (grind (arith, most)) c.multiply.ensures
