use Rattle.meaning.specs.Refusals.{number_of}
use Rattle.decimal128.proofs.c.give_length.Goals as goal

pub returns-in-Err-clause-number : goal.returns-in-Err-clause-number
unfolding number_of
returns-in-Err-clause-number c = simp c.in-Err.is
