use mathlib.Core.Path.{refl}
use Rattle.layout.specs.Fields.{said}
use Rattle.layout.proofs.special.Goals as goal

pub returns : goal.returns
unfolding said
returns c = refl
