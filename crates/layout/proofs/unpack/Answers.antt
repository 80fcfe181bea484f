use native.Mathlib.Omega.{arith}
use Rattle.meaning.proofs.Fields.{decodes_in_range}
use Rattle.layout.proofs.unpack.Goals as goal

pub digits_of-requires : goal.digits_of-requires
digits_of-requires c = grind (arith, decodes_in_range)

pub invariant_of-result : goal.invariant_of-result
invariant_of-result c = grind (arith, decodes_in_range)
