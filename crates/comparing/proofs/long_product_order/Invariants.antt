use mathlib.Core.Path.{◌≡◌}
use Prim.Native.Nat.{◌*◌, ◌^◌}
use Rattle.limbs.specs.Value.{value}
use Rattle.comparing.proofs.long_product_order.Given as goal

abbrev pub invariant-nines : goal.invariant-nines
invariant-nines l = value l.product ≡ value l.initial.product * 10 ^ (9 * l.counter)
