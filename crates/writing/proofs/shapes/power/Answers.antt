use mathlib.Core.Path.{◌∙◌}
use native.Mathlib.Omega.{arith}
use Rattle.limbs.specs.Value.{value}
use Rattle.meaning.specs.Writing.{decimal}
use Rattle.writing.specs.Pieces.{head, tail}
use Rattle.writing.proofs.Written.{follow}
use Rattle.writing.proofs.Texts.{length-head, length_power}
use Rattle.writing.proofs.Puts.{signed_no_room, signed_room}
use Rattle.writing.proofs.shapes.power.Goals as goal

pub returns-in_err-at : goal.returns-in_err-at
returns-in_err-at c =
    let n = c.args.c.sized in
    let h = c.head_len-head.ensures.value ∙ length-head (decimal (value c.args.c.limbs)) n.count n.some in
    signed_no_room c.args.negative _ _ _ (length_power _ c.args.adjusted h c.tail_len-tail.ensures) _ c.from_residual.ensures.0 c.in_err-at.ensures.no_room

pub returns : goal.returns
returns c =
    let n = c.args.c.sized in
    let h = c.head_len-head.ensures.value ∙ length-head (decimal (value c.args.c.limbs)) n.count n.some in
    let e = c.in_ok-at.ensures in
    signed_room c.args.negative _ _ _ (length_power _ c.args.adjusted h c.tail_len-tail.ensures) e.at e.room c.put_sign.ensures
    (λ _. follow _ _ (head (decimal (value c.args.c.limbs))) (tail c.args.adjusted) _ c.put_head.ensures c.put_tail.ensures (omega (arith, h)) (omega arith))
