-- Laws of the value of four limbs.
use mathlib.Core.Path.{◌≡◌, refl, sym, ap, ◌∙◌}
use mathlib.Core.Logic.{⊎_elim}
use mathlib.Core.List.{List, [], ◌∷◌}
use Prim.Native.Nat.{ℕ, zero, suc, ◌+◌, ◌*◌, ◌/◌, ◌%◌, ◌^◌, ◌<◌, ◌≤◌}
use native.Mathlib.Nat.{mul_assoc, add-mul, mul-add, mul_left_comm, mul-zero, mul-suc, mul-le-mul_left, lt_of_le_of_lt}
use native.Mathlib.Omega.{arith}
use mathlib.Core.Bool.{Bool}
use lib.Dec.{ltb}
use mir.Syntax.{w32}
use mir.Val.{Fits}
use lib.ListN.{length, drop, get_or}
use lib.Arith.{digits_div, digits_mod}
use borrow.Author.Tests.{lt-ltb, le-ltb}
use Rattle.std.proofs.lemmas.List.{drop_more}
use Rattle.meaning.proofs.Numbers.{le_or}
use Rattle.limbs.specs.Value.{value}

-- ---- four limbs, one by one

four : (a : List ℕ) → length a ≡ 4 → a ≡ get_or a 0 0 ∷ get_or a 1 0 ∷ get_or a 2 0 ∷ get_or a 3 0 ∷ []
four [] l = absurd (omega arith)
four (a ∷ []) l = absurd (omega arith)
four (a ∷ b ∷ []) l = absurd (omega arith)
four (a ∷ b ∷ c ∷ []) l = absurd (omega arith)
four (a ∷ b ∷ c ∷ d ∷ []) l = refl
four (a ∷ b ∷ c ∷ d ∷ e ∷ f) l = absurd (omega arith)

pub value_four : (a : List ℕ) → length a ≡ 4 → value a ≡ value (get_or a 0 0 ∷ get_or a 1 0 ∷ get_or a 2 0 ∷ get_or a 3 0 ∷ [])
value_four a l = ap value (four a l)

-- B is the bound of what stands above
fits_step : (B x n : ℕ) → Fits w32 x → n < B → x + 2 ^ 32 * n < 2 ^ 32 * B
fits_step B x n f h = omega (arith, mul-le-mul_left (2 ^ 32) h)

pub value_fits : {x₀ x₁ x₂ x₃ : ℕ} → Fits w32 x₀ → Fits w32 x₁ → Fits w32 x₂ → Fits w32 x₃ → value (x₀ ∷ x₁ ∷ x₂ ∷ x₃ ∷ []) < 2 ^ 128
value_fits f₀ f₁ f₂ f₃ = fits_step _ _ _ f₀ (fits_step _ _ _ f₁ (fits_step _ _ _ f₂ (fits_step 1 _ 0 f₃ (omega arith))))

-- ---- halves

pub of_halves : (n : ℕ) → n % 2 ^ 64 + 2 ^ 64 * (n / 2 ^ 64) ≡ n
of_halves n = omega arith

-- the upper half decides where it differs
pub upper_below : (m n : ℕ) {x y : ℕ} → x ≡ m / 2 ^ 64 → y ≡ n / 2 ^ 64 → x < y → m < n
upper_below m n e f h = omega arith

-- ---- order

-- t says whether m is below n, which is another number
pub record Decides (t : Bool) (m n : ℕ) : Type 0 where
  pub test : t ≡ ltb m n
  pub differ : m ≡ n → ⊥

same_test : (m n p q : ℕ) → (m < n → p < q) → (n ≤ m → q ≤ p) → ltb m n ≡ ltb p q
same_test m n p q f g =
    ⊎_elim (λ h. le-ltb m n h ∙ sym (le-ltb p q (g h))) (λ h. lt-ltb m n h ∙ sym (lt-ltb p q (f h))) (le_or n m)

-- where the limbs above are the same, the limb decides
pub same_limbs : {x y m n : ℕ} → x ≡ y → m ≡ n → x + 2 ^ 32 * m ≡ y + 2 ^ 32 * n
same_limbs e f = rw (e, f)

pub lowest : (x y : ℕ) {m n : ℕ} → m ≡ n → ltb x y ≡ ltb (x + 2 ^ 32 * m) (y + 2 ^ 32 * n)
lowest x y {m} {n} e = same_test x y (x + 2 ^ 32 * m) (y + 2 ^ 32 * n) (λ h. omega arith) (λ h. omega arith)

pub highest : {x y m n : ℕ} → m ≡ n → (x ≡ y → ⊥) → Decides (ltb x y) (x + 2 ^ 32 * m) (y + 2 ^ 32 * n)
highest {x} {y} {m} {n} e d = record { test = lowest x y e; differ = λ h. d (omega arith) }

-- where they are not, it changes nothing
pub below : {t : Bool} {x y m n : ℕ} → Fits w32 x → Fits w32 y → Decides t m n → Decides t (x + 2 ^ 32 * m) (y + 2 ^ 32 * n)
below {t} {x} {y} {m} {n} f g d =
    record {
      test = d.test ∙ same_test m n (x + 2 ^ 32 * m) (y + 2 ^ 32 * n) (λ h. omega arith) (λ h. omega (arith, d.differ));
      differ = λ h. d.differ (omega arith);
    }

-- ---- carries

-- four limbs, each times d
pub value_product : (x₀ x₁ x₂ x₃ d : ℕ) → value ((x₀ * d) ∷ (x₁ * d) ∷ (x₂ * d) ∷ (x₃ * d) ∷ []) ≡ value (x₀ ∷ x₁ ∷ x₂ ∷ x₃ ∷ []) * d
value_product x₀ x₁ x₂ x₃ d = simp (add-mul, mul_assoc) (omega arith)

-- nothing is carried out of a number that fits
pub none_carried : (B : ℕ) {p n : ℕ} (c : ℕ) → p + B * c ≡ n → n < B → p ≡ n
none_carried B zero e h = omega (arith, mul-zero B)
none_carried B (suc c) e h = absurd (omega (arith, mul-suc B c))

-- ---- products

-- the limbs from i on
value_drop_le : (b : List ℕ) (i : ℕ) → value (drop i b) ≤ value b
value_drop_le [] zero = omega arith
value_drop_le [] (suc i) = omega arith
value_drop_le (x ∷ b) zero = omega arith
value_drop_le (x ∷ b) (suc i) = omega (arith, value_drop_le b i)

-- a product with the limbs of b from j on, where one limb more is multiplied in below
pub record Multiplied (a : ℕ) (b : List ℕ) (j p : ℕ) : Type 0 where
  pub is : p ≡ a * value (drop j b)

module _ {a : ℕ} {b : List ℕ} {i j p : ℕ} (e : j ≡ i + 1) (h : Multiplied a b j p) (l : i < length b) where
  one_more : a * get_or b i 0 + 2 ^ 32 * p ≡ a * value (drop i b)
  one_more = rw (h.is, e, drop_more b i 0 l) (simp (mul-add, mul_left_comm))

  pub one_more_fits : a * value b < 2 ^ 128 → a * get_or b i 0 + 2 ^ 32 * p < 2 ^ 128
  one_more_fits f = rw one_more (lt_of_le_of_lt (mul-le-mul_left a (value_drop_le b i)) f)

  pub multiplied_more : {q : ℕ} → q ≡ a * get_or b i 0 + 2 ^ 32 * p → Multiplied a b i q
  multiplied_more f = record { is = f ∙ one_more }

-- ---- long division

-- the quotient and the remainder, from the equation of a division
pub divides : {n q d r : ℕ} → q * d + r ≡ n → r < d → (q ≡ n / d) × (r ≡ n % d)
divides {n} {q} {d} {r} e h = (sym (ap (λ (m : ℕ). m / d) (sym e) ∙ digits_div q h), sym (ap (λ (m : ℕ). m % d) (sym e) ∙ digits_mod q h))

-- one limb more, from the top
pub longer : (d n q r a q' r' : ℕ) → q * d + r ≡ n → q' * d + r' ≡ r * 2 ^ 32 + a → (q' + 2 ^ 32 * q) * d + r' ≡ a + 2 ^ 32 * n
longer d n q r a q' r' e f = simp (add-mul, mul_assoc) (omega arith)
