-- Laws of the order of two numbers, of scaling one of them, and of the counts of their digits.
use mathlib.Core.Path.{◌≡◌, refl, sym, ap, ◌∙◌}
use Prim.Native.Nat.{ℕ, ◌+◌, ◌-◌, ◌*◌, ◌/◌, ◌%◌, ◌^◌, ◌≤◌, ◌<◌, min}
use native.Mathlib.Nat.{add-zero, one-mul, mul_assoc, mul-le-mul_right, mul-lt-mul_of_pos_right, mul-le-mul_left, lt_of_lt_of_le, le_trans}
use native.Mathlib.Omega.{arith}
use mir.Syntax.{w32}
use mir.Val.{Fits}
use lib.Pow.{pow-add}
use Rattle.meaning.specs.Order.{compared, scaled}
use Rattle.meaning.proofs.Numbers.{pow_pos, pow-le}
use Rattle.limbs.specs.Count.{Counts}
use Rattle.std.specs.declared.cmp.Ordering.TheVariants.{Less, Greater}
use Rattle.std.specs.Ordering.{nat_cmp}
use Rattle.std.specs.Cmp.{nat_cmp_is}
use Rattle.limbs.proofs.Counting.{counts_few}
use Rattle.comparing.specs.Told.{told_of}

-- ---- two numbers

pub told-order : (m n : ℕ) → told_of (nat_cmp m n) ≡ compared m n
unfolding compared
told-order m n = grind arith

-- ---- a·10^d against c
module _ (a d c : ℕ) where
  pub out_of_reach : c < 10 ^ 34 → 1 ≤ a → 33 < d → Greater ≡ nat_cmp (a * 10 ^ d) c
  out_of_reach g n l =
      nat_cmp_is _ _ Greater (lt_of_lt_of_le g (le_trans (pow-le l) (rw one-mul at (mul-le-mul_right (10 ^ d) n))))

-- nine digits at a time: p is what i turns of d / 9 have made of a
module _ (a d c p i : ℕ) (e : p ≡ a * 10 ^ (9 * i)) where
  pub nine_more : {q : ℕ} → q ≡ p * 1000000000 + 0 → q ≡ a * 10 ^ (9 * (i + 1))
  nine_more f =
      let n : 9 * (i + 1) ≡ 9 * i + 9 = omega arith in
      rw (n, pow-add 10 (9 * i) 9) (f ∙ add-zero _ ∙ rw e (mul_assoc a (10 ^ (9 * i)) 1000000000))

  -- what is too large already stays so
  pub over_nine : i < d / 9 → c < p * 1000000000 + 0 → Greater ≡ nat_cmp (a * 10 ^ d) c
  over_nine h g =
      let q = nine_more refl in
      let n : 9 * (i + 1) ≤ d = omega arith in
      nat_cmp_is _ _ Greater (lt_of_lt_of_le (rw q at g) (mul-le-mul_left a (pow-le n)))

  module _ (done : i ≡ d / 9) where
    pub last_product : {q : ℕ} → q ≡ p * 10 ^ (d % 9) + 0 → q ≡ a * 10 ^ d
    last_product f =
        let n : 9 * i + d % 9 ≡ d = omega arith in
        f ∙ add-zero _ ∙ rw e (mul_assoc a (10 ^ (9 * i)) (10 ^ (d % 9))) ∙ ap (λ (k : ℕ). a * k) (sym (pow-add 10 (9 * i) (d % 9)) ∙ ap (λ (k : ℕ). 10 ^ k) n)

    pub over_last : c < p * 10 ^ (d % 9) + 0 → Greater ≡ nat_cmp (a * 10 ^ d) c
    over_last g = nat_cmp_is (a * 10 ^ d) c Greater (rw (last_product refl) at g)

-- ---- a·10^x against c·10^e, by the counts of the digits

-- where the first digit stands
pub height_fits : (x n k : ℕ) → Fits w32 x → n < 10 ^ 34 → Counts n k → x + k < 2 ^ 64
height_fits x n k f l h = omega (arith, counts_few n k l h)

-- the first digit of a·10^p stands below that of c·10^q
first_below : (a c p q k j : ℕ) → a < 10 ^ k → 10 ^ j ≤ c → k + p ≤ j + q → a * 10 ^ p < c * 10 ^ q
first_below a c p q k j f g h =
    lt_of_lt_of_le
    (rw (← pow-add 10 k p) at (mul-lt-mul_of_pos_right f (pow_pos p)))
    (le_trans (pow-le h) (rw (pow-add 10 j q) (mul-le-mul_right (10 ^ q) g)))

-- c is not zero, and its first digit stands higher
scaled-below : (a x c e k l : ℕ) → Counts a k → Counts c l → 1 ≤ c → x + k < e + l → scaled a x e < scaled c e x
scaled-below a x c e k l f g n h =
    first_below a c (x - min x e) (e - min e x) k (l - 1) f.below (omega (arith, g.above)) (omega (arith, g.some))

module _ (a x c e k l : ℕ) (f : Counts a k) (g : Counts c l) where
  pub height_less : 1 ≤ c → x + k < e + l → Less ≡ nat_cmp (scaled a x e) (scaled c e x)
  height_less n h = nat_cmp_is _ _ Less (scaled-below a x c e k l f g n h)

  pub height_greater : 1 ≤ a → e + l < x + k → Greater ≡ nat_cmp (scaled a x e) (scaled c e x)
  height_greater n h = nat_cmp_is _ _ Greater (scaled-below c e a x l k g f n h)
