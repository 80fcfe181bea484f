-- The powers of ten of one limb: each row of the match is the number that it should be, which antt computes.
use mathlib.Core.Path.{◌≡◌, sym}
use Prim.Native.Nat.{ℕ, zero, suc, ◌≤◌, ◌<◌, zero-le}
use native.Mathlib.Omega.{arith}
use lib.Arith.{lt_of_le-ne}

-- ---- a match on k with a row for each number below i: nothing is left for `_` where k is below i

-- k is none of the numbers below i
abbrev Rest : ℕ → ℕ → Type 0
Rest zero k = Unit
Rest (suc i) k = Rest i k × (k ≡ i → ⊥)

beyond : (i k : ℕ) → Rest i k → i ≤ k
beyond zero k h = zero-le
beyond (suc i) k h = lt_of_le-ne (beyond i k h.0) (λ (e : i ≡ k). h.1 (sym e))

pub none_left : (i k : ℕ) → Rest i k → k < i → ⊥
none_left i k h l = let g = beyond i k h in omega arith
