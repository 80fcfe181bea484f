-- Each row of the table is ten times the row before: one test that antt computes over the table, carried to each entry.
use mathlib.Core.Path.{◌≡◌, refl, sym, ap, ◌∙◌}
use mathlib.Core.Bool.{Bool, true, ◌&&◌}
use mathlib.Core.List.{List, [], ◌∷◌}
use Prim.Native.Nat.{ℕ, zero, suc, ◌*◌, ◌^◌, ◌<◌, ◌≤◌}
use native.Mathlib.Nat.{pow-suc}
use native.Mathlib.Omega.{arith}
use lib.Dec.{eqb}
use lib.ListN.{length, get_or}
use borrow.Author.Tests.{eqb-true}
use Rattle.meaning.proofs.Numbers.{both}
use Rattle.limbs.specs.Value.{value}
use Rattle.limbs.specs.Powers.{table}

abbrev ten : List ℕ → List ℕ → Bool
ten r s = eqb (value s) (value r * 10)

unfoldable grows : List (List ℕ) → Bool
grows [] = true
grows (r ∷ []) = true
grows (r ∷ s ∷ rs) = ten r s && grows (s ∷ rs)

grow : (rows : List (List ℕ)) (d : List ℕ) → grows rows ≡ true → (k : ℕ) → suc k < length rows → value (get_or rows (suc k) d) ≡ value (get_or rows k d) * 10
unfolding grows
grow [] d t k h = absurd (omega arith)
grow (r ∷ []) d t k h = absurd (omega arith)
grow (r ∷ s ∷ rs) d t zero h = eqb-true (value s) (value r * 10) (both (ten r s) (grows (s ∷ rs)) t).0
grow (r ∷ s ∷ rs) d t (suc k) h = grow (s ∷ rs) d (both (ten r s) (grows (s ∷ rs)) t).1 k (omega arith)

pub ten_times : (k : ℕ) → k < 34 → value (get_or table (suc k) []) ≡ value (get_or table k []) * 10
unfolding table grows
ten_times k h = grow table [] refl k (omega arith)

pub power_of : (k : ℕ) → k ≤ 34 → value (get_or table k []) ≡ 10 ^ k
unfolding table
power_of zero h = refl
power_of (suc k) h = ten_times k h ∙ ap (λ (n : ℕ). n * 10) (power_of k (omega arith)) ∙ sym (pow-suc 10 k)
