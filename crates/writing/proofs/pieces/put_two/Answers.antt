use Rattle.writing.proofs.Written.{written_two}
use Rattle.writing.proofs.pieces.put_two.Goals as goal

pub returns : goal.returns
returns c = written_two _ _ _ _ c.requires
