use Rattle.writing.proofs.Low.{first_put}
use Rattle.writing.proofs.digits.put_few.Goals as goal

pub returns : goal.returns
returns c =
    let p = c.requires in
    first_put _ _ _ _ p.some p.below p.room c.put_low-first.ensures.buf_after c.put_low-first.ensures.value
