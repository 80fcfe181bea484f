-- Laws of the count of decimal digits.
use mathlib.Core.Path.{◌≡◌, refl, sym}
use mathlib.Core.Logic.{inl, inr, ⊎_elim}
use Prim.Native.Nat.{ℕ, zero, suc, ◌+◌, ◌-◌, ◌*◌, ◌/◌, ◌^◌, ◌≤◌, ◌<◌, max}
use native.Mathlib.Nat.{mul_comm, lt_of_lt_of_le, pow-succ', div-lt_iff_lt-mul, le-div_iff_mul-le}
use native.Mathlib.Numerals.{add-one}
use native.Mathlib.Omega.{arith}
use lib.Dec.{lit<, lit≤}
use lib.ListN.{length}
use lib.Pow.{pow-add}
use Rattle.meaning.specs.Writing.{decimal}
use Rattle.meaning.proofs.Numbers.{le_or, pow_pos, pow-le, number_lt}
use Rattle.meaning.proofs.Digits.{Counted, count_is, decimal_all, decimal-number, decimal_some, few}
use Rattle.limbs.specs.Count.{Counts}

counted : (n j : ℕ) → Counts n (suc j) → Counted n j
counted n zero h = record { below = h.below; above = inl refl }
counted n (suc j) h =
    let e : suc (suc j) - 1 ≡ suc j = omega arith in
    record { below = h.below; above = inr (omega (arith, rw e at h.above, pow-succ' 10 j, pow_pos j)) }

pub zero_counts : Counts 0 1
zero_counts = record { some = lit≤ tt; below = lit< tt; above = lit≤ tt }

pub counts_between : (j k n : ℕ) → k ≡ suc j → 10 ^ j ≤ n → n < 10 ^ k → Counts n k
counts_between j k n e l h =
    let p : k - 1 ≡ j = omega arith in record { some = omega arith; below = h; above = rw p (omega (arith, pow_pos j)) }

pub counts_few : (n k : ℕ) → n < 10 ^ 34 → Counts n k → k ≤ 34
counts_few n k l h = ⊎_elim (λ g. absurd (omega (arith, pow-le g, h.above))) (λ g. omega arith) (le_or 34 (k - 1))

pub counts_decimal : (n k : ℕ) → n < 10 ^ 34 → Counts n k → k ≡ length (decimal n)
counts_decimal n zero l h = absurd (omega (arith, h.some))
counts_decimal n (suc j) l h = sym (count_is n j (counts_few n (suc j) l h) (counted n j h))

-- what has more than j digits is not below 10^j, where zero, which has one, goes for one
not_few : (n j k : ℕ) → length (decimal n) ≡ k → j < k → 10 ^ j ≤ max n 1
not_few n zero k e l = omega arith
not_few n (suc j) k e l = ⊎_elim (λ h. omega arith) (λ h. absurd (omega (arith, few n j h))) (le_or (10 ^ suc j) n)

pub decimal_counts : (n : ℕ) → n < 10 ^ 34 → Counts n (length (decimal n))
decimal_counts n l =
    let some = decimal_some n l in
    record {
      some = some;
      below = rw (decimal-number n l) at (number_lt (decimal n) (decimal_all n l));
      above = not_few n _ _ refl (omega arith);
    }

-- the digits of n are those of n / 10^j and j more
pub counts_more : (j n k : ℕ) → 10 ^ j ≤ n → Counts (n / 10 ^ j) k → Counts n (j + k)
counts_more j n zero l h = absurd (omega (arith, h.some))
counts_more j n (suc i) l h =
    let p = pow_pos j in
    let one : 1 ≤ n / 10 ^ j = (le-div_iff_mul-le p).1 (omega arith) in
    let many : 10 ^ i * 10 ^ j ≤ n = (le-div_iff_mul-le p).0 (let e : suc i - 1 ≡ i = omega arith in omega (arith, rw e at h.above)) in
    let few : n < 10 ^ suc i * 10 ^ j = (div-lt_iff_lt-mul p).0 h.below in
    record {
      some = omega arith;
      below = rw (pow-add, mul_comm) few;
      above = let e : j + suc i - 1 ≡ j + i = omega arith in rw (e, pow-add) (omega (arith, mul_comm (10 ^ j) (10 ^ i)));
    }

-- a logarithm, rounded down, and one
pub log_counts : (n k : ℕ) → n < 2 ^ 64 → 10 ^ k ≤ n → n < 10 * 10 ^ k → k + 1 ≡ length (decimal n)
log_counts n k f h l = counts_decimal n (k + 1) (lt_of_lt_of_le f (lit≤ tt)) (counts_between k (k + 1) n (omega arith) h (rw (add-one, pow-succ') l))

pub zero_length : (n : ℕ) → n ≡ 0 → 1 ≡ length (decimal n)
zero_length n e = rw e (counts_decimal 0 1 (lit< tt) zero_counts)
