use mathlib.Core.Path.{refl}
use Rattle.writing.proofs.Puts.{signed_no_room, signed_room}
use Rattle.writing.proofs.shapes.known.Goals as goal

pub returns-in_err-at : goal.returns-in_err-at
returns-in_err-at c =
    signed_no_room c.args.negative _ _ _ refl _ c.from_residual.ensures.0 c.in_err-at.ensures.no_room

pub returns : goal.returns
returns c =
    let e = c.in_ok-at.ensures in
    signed_room c.args.negative _ _ _ refl e.at e.room c.put_sign.ensures
    (λ _. c.put_all.ensures)
