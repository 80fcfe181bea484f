use native.Mathlib.Omega.{arith}
use Rattle.layout.specs.Unpacked.{meant}
use Rattle.comparing.proofs.Signs.{opposites, of_one_sign, of_finite, finite_ranged, finite_counts}
use Rattle.comparing.proofs.values.Goals as goal

pub returns-then-not-is_finite : goal.returns-then-not-is_finite
unfolding meant
returns-then-not-is_finite c = c.special.ensures

pub returns-then-not-is_finite-2 : goal.returns-then-not-is_finite-2
unfolding meant
returns-then-not-is_finite-2 c = grind arith

pub returns-then-f-g : goal.returns-then-f-g
unfolding meant
returns-then-f-g c = grind (arith, opposites, of_finite c.args.u.fields c.args.v.fields)

pub heights-requires : goal.heights-requires
unfolding meant
heights-requires c = grind (arith, finite_ranged, finite_counts)

pub returns : goal.returns
unfolding meant
returns c = grind (arith, of_one_sign, of_finite c.args.u.fields c.args.v.fields)
