use mathlib.Core.Path.{sym}
use Rattle.writing.proofs.Written.{written_none, written_one}
use Rattle.writing.proofs.pieces.put_sign.Goals as goal

pub returns-then-negative : goal.returns-then-negative
returns-then-negative c =
    let e = rw c.if-negative.true at c.requires in
    rw c.if-negative.true (written_one 0 45 _ e)

pub returns-else-negative : goal.returns-else-negative
returns-else-negative c = rw c.if-negative.false (sym (written_none 0 _))
