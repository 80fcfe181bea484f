use native.Mathlib.Omega.{arith}
use Rattle.limbs.specs.Value.{value}
use Rattle.meaning.specs.Writing.{decimal}
use Rattle.writing.proofs.Texts.{length_small, small_in}
use Rattle.writing.proofs.Puts.{signed_no_room, signed_room}
use Rattle.writing.proofs.shapes.small.Goals as goal

pub returns-in_err-at : goal.returns-in_err-at
returns-in_err-at c =
    signed_no_room c.args.negative _ _ _ (length_small _ c.args.places c.args.c.sized.count c.requires.within) _ c.from_residual.ensures.0 c.in_err-at.ensures.no_room

pub returns : goal.returns
returns c =
    let e = c.in_ok-at.ensures in
    signed_room c.args.negative _ _ _ (length_small _ c.args.places c.args.c.sized.count c.requires.within) e.at e.room c.put_sign.ensures
    (λ _. small_in _ _ c.args.places c.args.c.digits (decimal (value c.args.c.limbs)) _ c.args.c.sized.count c.requires.within (omega arith) (omega arith)
    c.put_all.ensures c.put_zeros.ensures c.put.ensures)
