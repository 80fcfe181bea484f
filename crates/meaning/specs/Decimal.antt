-- The values of decimal128: IEEE 754-2008, 3.3 and 3.5.2.
use Rattle.std.specs.Prelude.{ℕ, ◌^◌, ◌≤◌, ◌<◌, Bool}

-- the first Bool says whether the sign is set
pub data Decimal : Type 0 where
  -- whether it is signalling
  nan : Bool → Bool → Decimal
  infinity : Bool → Decimal
  -- the biased exponent, which is the exponent + 6176, and the coefficient
  finite : Bool → ℕ → ℕ → Decimal

-- the format has exponents from -6176 to 6111 and 34 digits
abbrev pub InRange : Decimal → Type 0
InRange (nan s q) = Unit {0}
InRange (infinity s) = Unit {0}
InRange (finite s e c) = (e ≤ 12287) × (c < 10 ^ 34)
