use Rattle.writing.proofs.Point.{front_in}
use Rattle.writing.proofs.digits.put_front.Goals as goal

pub returns : goal.returns
returns c =
    front_in _ c.args.count _ _ c.requires.room c.put_few.ensures
