use mathlib.Core.Path.{refl}
use Prim.Native.Nat.{◌<◌}
use native.Mathlib.Omega.{arith}
use lib.ListN.{length}
use Rattle.meaning.specs.Reading.{all_digits}
use Rattle.reading.proofs.Rows.{digits-more}
use Rattle.reading.proofs.scan.are_digits.Goals as goal

pub loop-b-init : goal.loop-b-init
unfolding all_digits
loop-b-init c = refl

pub loop-b-preserved : goal.loop-b-preserved
loop-b-preserved c =
    let inside : c.loop-b.b-index < length c.args.bytes.now = omega (arith, c.told-bytes) in
    rw (c.loop-b.invariant, c.is_ascii_digit-all.ensures.value) (digits-more _ _ inside)
