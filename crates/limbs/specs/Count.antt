-- How many decimal digits a number has.
use Rattle.std.specs.Prelude.{◌≡◌, ℕ, ◌+◌, ◌-◌, ◌^◌, ◌≤◌, ◌<◌, max}

-- n has k decimal digits; zero has one
pub record Counts (n k : ℕ) : Type 0 where
  pub some : 1 ≤ k
  pub below : n < 10 ^ k
  pub above : 10 ^ (k - 1) ≤ max n 1

-- n has k + 1 to k + 4 digits, and p, q and r are the powers of ten between these
pub record Four (n k p q r : ℕ) : Type 0 where
  pub few : k < 32
  pub above : 10 ^ k ≤ n
  pub first : p ≡ 10 ^ (k + 1)
  pub second : q ≡ 10 ^ (k + 2)
  pub third : r ≡ 10 ^ (k + 3)
  pub below : n < 10 ^ (k + 4)
