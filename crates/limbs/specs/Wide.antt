-- Exponents in the code: how a written one stands in a sign and limbs, and an exponent of steps 6 to 10 in 64 bits.
-- An exponent x stands as n = x + 2^127, as in the definitions of the steps.
use Rattle.std.specs.Prelude.{◌≡◌, ◌⊎◌, Bool, true, false, List, ℕ, ◌+◌, ◌-◌, ◌^◌, ◌≤◌, ◌<◌, min, max, nat_le, nat_lt, Option, Some, None, IsSomeAnd, Result, Err, IsOkAnd}
use Rattle.meaning.specs.Reading.{origin, low, high, all_digits, number, upward, downward, Written}
use Rattle.meaning.specs.Reading.Written.{written, wrong}
use Rattle.limbs.specs.Value.{value}
use Rattle.limbs.specs.declared.wide.ExponentError.{ExponentError}
use Rattle.limbs.specs.declared.wide.ExponentError.TheVariants.{Invalid, Underflow}
use Rattle.limbs.specs.declared.wide.Exponent.{Exponent}
use Rattle.limbs.specs.declared.wide.Stand.{Stand}

-- an exponent in 64 bits, since antt has no name for an alias of the code
abbrev pub Shift : Type 0
Shift = Exponent ℕ

-- ---- step 5

-- the digits t, after those that wrote n, write the limbs v; or there are none: one is no digit, or 128 bits are passed
unfoldable pub Spells : ℕ → List ℕ → Option (List ℕ) → Type 0
Spells n t (Some v) = (all_digits t ≡ true) × (value v ≡ number n t)
Spells n t None = (all_digits t ≡ false) ⊎ (2 ^ 128 ≤ number n t)

abbrev pub in_range : Bool → ℕ → Bool
in_range true size = nat_le size origin
in_range false size = nat_lt size origin

-- what is written after a sign, which is minus or not
abbrev pub signed : Bool → List ℕ → Written
signed true t = downward t
signed false t = upward t

-- n - 2^127 is size, or minus size
unfoldable pub Signed : Bool → ℕ → ℕ → Type 0
Signed true size n = n + size ≡ origin
Signed false size n = n ≡ origin + size

unfoldable pub WrittenAs : Written → Option (Exponent (List ℕ)) → Type 0
WrittenAs wrong e = e ≡ None
WrittenAs (written n) e = IsSomeAnd e (λ x. Signed x.negative (value x.size) n)

-- ---- steps 6 to 10

-- n - 2^127 is size, or minus size, while size is below far; from there on it may be any that is larger still
unfoldable pub Sized : ℕ → ℕ → Bool → ℕ → Type 0
Sized far n true size = (n + size ≤ origin) × (size < far → n + size ≡ origin)
Sized far n false size = (origin + size ≤ n) × (size < far → n ≡ origin + size)

-- x is the exponent n - 2^127, as step 6 leaves it: the largest size of 64 bits stands for all that are larger too
abbrev pub Stands : ℕ → Shift → Type 0
Stands n x = Sized (2 ^ 64 - 1) n x.negative x.size

-- the same after step 8, which may have taken up to 2^63 - 1 off that size, and so is made once
abbrev pub Raised : ℕ → Shift → Type 0
Raised n x = Sized (2 ^ 63) n x.negative x.size

-- r stands for a size with its sign
abbrev pub Narrowed : Bool → ℕ → Shift → Type 0
Narrowed neg size r = (n : ℕ) → Signed neg size n → Stands n r

-- steps 5 and 6: the refusal, or E-F
unfoldable pub Lowered : Written → ℕ → Result Shift ExponentError → Type 0
Lowered wrong f r = r ≡ Err Invalid
Lowered (written e) f r = ((e < f) × (r ≡ Err Underflow)) ⊎ ((f ≤ e) × IsOkAnd r (Stands (e - f)))

-- the exponent n - 2^127 against the range
unfoldable pub stand_at : ℕ → Stand
stand_at n = record { field = min (max n low) high - low; below = min 35 (low - n); above = min 35 (n - high) }
