use Rattle.writing.proofs.Texts.{sized}
use Rattle.writing.proofs.coefficient.Coefficient.new.Goals as goal

pub invariant_of-result : goal.invariant_of-result
invariant_of-result c = record { sized = sized _ _ c.requires c.digits.ensures }
