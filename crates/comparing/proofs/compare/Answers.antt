use native.Mathlib.Omega.{arith}
use Rattle.meaning.proofs.Fields.{decodes_in_range}
use Rattle.comparing.proofs.Signs.{of_finite, finite_ranged}
use Rattle.comparing.proofs.compare.Goals as goal

pub finite-requires : goal.finite-requires
finite-requires c = grind (arith, decodes_in_range, finite_ranged)

pub returns : goal.returns
returns c = grind (arith, of_finite)
