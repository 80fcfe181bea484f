-- Laws of `decimal`: the digits of a number, their count and what they write.
use mathlib.Core.Path.{◌≡◌, refl, sym, ap, ◌∙◌}
use mathlib.Core.Logic.{◌⊎◌, inr, ⊎_elim}
use mathlib.Core.Bool.{true}
use mathlib.Core.List.{List, [], ◌∷◌}
use Prim.Native.Nat.{ℕ, zero, suc, ◌+◌, ◌-◌, ◌*◌, ◌/◌, ◌%◌, ◌^◌, ◌≤◌, ◌<◌}
use native.Mathlib.Nat.{add-mul, mul_assoc, pow-succ', div-add-mod', lt_of_lt_of_le}
use native.Mathlib.Omega.{arith}
use lib.Dec.{leb, lit≤}
use lib.ListN.{length}
use borrow.Author.Tests.{le-leb, lt-ltb, le-ltb}
use Rattle.meaning.specs.Reading.{is_digit, number, all_digits}
use Rattle.meaning.specs.Writing.{digits_before, decimal}
use Rattle.meaning.proofs.Numbers.{both_of, le_or, number_cons, pow_pos}

-- ---- one digit at a time, with fuel for k more

pub last : (k n : ℕ) (s : List ℕ) → n < 10 → digits_before (suc k) n s ≡ (48 + n) ∷ s
unfolding digits_before
last k n s h = rw (lt-ltb n 10 h)

pub more : (k n : ℕ) (s : List ℕ) → 10 ≤ n → digits_before (suc k) n s ≡ digits_before k (n / 10) ((48 + n % 10) ∷ s)
unfolding digits_before
more k n s h = rw (le-ltb n 10 h)

-- ---- what they write

record Digits (n : ℕ) (s r : List ℕ) : Type 0 where
  all : all_digits s ≡ true → all_digits r ≡ true
  value : number 0 r ≡ n * 10 ^ length s + number 0 s
  some : 1 ≤ length r

last_digit : (n : ℕ) (s : List ℕ) → n < 10 → Digits n s ((48 + n) ∷ s)
unfolding all_digits
last_digit n s h =
    let e : 48 + n - 48 ≡ n = omega arith in
    record {
      all = λ p. both_of (is_digit (48 + n)) (all_digits s) (both_of (leb 48 (48 + n)) (leb (48 + n) 57) (le-leb 48 (48 + n) (omega arith)) (le-leb (48 + n) 57 (omega arith))) p;
      value = number_cons (48 + n) s ∙ rw e;
      some = omega arith;
    }

digits_of : (k n : ℕ) (s : List ℕ) → n < 10 ^ suc k → Digits n s (digits_before (suc k) n s)
digits_of zero n s h = let g : n < 10 = h in rw (last zero n s g) (last_digit n s g)
digits_of (suc k) n s h =
    ⊎_elim
    (λ g.
    let t = (48 + n % 10) ∷ s in
    let b : n < 10 * 10 ^ suc k = rw pow-succ' at h in
    let i = digits_of k (n / 10) t (omega arith) in
    let l = last_digit (n % 10) s (omega arith) in
    let q : n * 10 ^ length s ≡ n / 10 * (10 * 10 ^ length s) + n % 10 * 10 ^ length s =
    ap (λ (m : ℕ). m * 10 ^ length s) (sym (div-add-mod' n 10)) ∙ simp (add-mul, mul_assoc) in
    rw (more (suc k) n s g)
    (record {
      all = λ p. i.all (l.all p);
      value = i.value ∙ rw pow-succ' (omega (arith, l.value, q));
      some = i.some;
    }))
    (λ g. rw (last (suc k) n s g) (last_digit n s g))
    (le_or 10 n)

module _ (n : ℕ) (h : n < 10 ^ 34) where
  of_decimal : Digits n [] (decimal n)
  unfolding decimal
  of_decimal = digits_of 39 n [] (lt_of_lt_of_le h (lit≤ tt))

  pub decimal_all : all_digits (decimal n) ≡ true
  decimal_all = of_decimal.all (unfold all_digits in refl)

  pub decimal-number : number 0 (decimal n) ≡ n
  decimal-number = of_decimal.value ∙ (unfold number in omega arith)

  pub decimal_some : 1 ≤ length (decimal n)
  decimal_some = of_decimal.some

-- ---- how many there are

-- n has j + 1 digits
pub record Counted (n j : ℕ) : Type 0 where
  pub below : n < 10 ^ suc j
  pub above : (j ≡ 0) ⊎ (10 ^ j ≤ n)

-- a tenth of it has one digit less
tenth : (n j : ℕ) → Counted n (suc j) → Counted (n / 10) j
tenth n j h =
    record {
      below = omega (arith, rw pow-succ' at h.below);
      above = ⊎_elim (λ z. absurd (omega arith)) (λ p. inr (omega (arith, pow-succ' 10 j))) h.above;
    }

ten_at_least : (n j : ℕ) → Counted n (suc j) → 10 ≤ n
ten_at_least n j h = ⊎_elim (λ z. absurd (omega arith)) (λ p. omega (arith, pow-succ' 10 j, pow_pos j)) h.above

count_before : (k j n : ℕ) (s : List ℕ) → j ≤ k → Counted n j → length (digits_before (suc k) n s) ≡ suc j + length s
count_before k zero n s l h = rw (last k n s h.below) (omega arith)
count_before zero (suc j) n s l h = absurd (omega arith)
count_before (suc k) (suc j) n s l h =
    rw (more (suc k) n s (ten_at_least n j h))
    (count_before k j (n / 10) ((48 + n % 10) ∷ s) (omega arith) (tenth n j h) ∙ omega arith)

pub count_is : (n j : ℕ) → j < 34 → Counted n j → length (decimal n) ≡ suc j
unfolding decimal
count_is n j l h = count_before 39 j n [] (omega arith) h ∙ omega arith

few_before : (k j n : ℕ) (s : List ℕ) → n < 10 ^ suc j → length (digits_before (suc k) n s) ≤ suc j + length s
few_before k zero n s h = rw (last k n s h) (omega arith)
few_before zero (suc j) n s h =
    ⊎_elim (λ g. rw (more zero n s g) (unfold digits_before in omega arith)) (λ g. rw (last zero n s g) (omega arith)) (le_or 10 n)
few_before (suc k) (suc j) n s h =
    ⊎_elim
    (λ g.
    let b : n < 10 * 10 ^ suc j = rw pow-succ' at h in
    rw (more (suc k) n s g) (omega (arith, few_before k j (n / 10) ((48 + n % 10) ∷ s) (omega arith))))
    (λ g. rw (last (suc k) n s g) (omega arith))
    (le_or 10 n)

-- a number below 10^(j+1) has at most j + 1 digits
pub few : (n j : ℕ) → n < 10 ^ suc j → length (decimal n) ≤ suc j
unfolding decimal
few n j h = omega (arith, few_before 39 j n [] h)
