use mathlib.Core.Logic.{◌⊎◌, inl, inr, ⊎_elim}
use Prim.Native.Nat.{◌+◌, ◌<◌}
use native.Mathlib.Omega.{arith}
use lib.ListN.{length}
use Rattle.limbs.specs.Value.{value}
use Rattle.meaning.specs.Writing.{decimal}
use Rattle.writing.proofs.Texts.{magnitude-plain, magnitude_power}
use Rattle.writing.proofs.finite.Goals as goal

pub returns-then-adjusted-ge6171 : goal.returns-then-adjusted-ge6171
returns-then-adjusted-ge6171 c =
    let w = c.if-adjusted-ge6171.true in
    rw (magnitude-plain (decimal (value c.args.c.limbs)) c.args.exponent c.if-exponent-le6176.true (omega (arith, c.args.c.sized.count))) c.plain.ensures

pub returns-else-exponent-le6176 : goal.returns-else-exponent-le6176
returns-else-exponent-le6176 c =
    let e = c.args.c.sized.count in
    let ds = decimal (value c.args.c.limbs) in
    let w : (6176 < c.args.exponent) ⊎ (c.args.exponent + length ds < 6171) =
    ⊎_elim (λ x. inr (omega (arith, x.1))) (λ x. inl x) c.else-exponent-le6176.either in
    rw (magnitude_power ds c.args.exponent w, ← e) c.power.ensures
