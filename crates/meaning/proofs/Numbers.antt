-- Laws of `number`, `all_digits`, `all_zeros` and `strip_zeros`.
use mathlib.Core.Path.{◌≡◌, refl, sym, ap, ◌∙◌}
use mathlib.Core.Logic.{◌⊎◌, inl, inr, ⊎_elim}
use mathlib.Core.Bool.{Bool, true, false, ◌&&◌, ◌||◌, cond, true≢false}
use mathlib.Core.List.{List, [], ◌∷◌, ◌++◌}
use Prim.Native.Nat.{ℕ, zero, suc, ◌+◌, ◌-◌, ◌*◌, ◌^◌, ◌%◌, ◌≤◌, ◌<◌}
use native.Mathlib.Nat.{add-zero, zero-add, add-mul, zero-mul, mul_assoc, pow-succ', pow-zero, mul-one, mul-le-mul_right, one-mul, le_trans, le-add_right, mul-mod_left, one-le-pow, pow-le-pow_right}
use native.Mathlib.Omega.{arith}
use native.Mathlib.Decide.{dec_le}
use lib.Arith.{digits_lt, digits_mod}
use lib.Pow.{pow-add}
use lib.Dec.{eqb, leb}
use lib.ListN.{length, take, drop, replicate, take-append-drop}
use borrow.Author.Tests.{eqb-true, eqb-false, eq-eqb, ne_eqb, leb-true}
use Rattle.meaning.specs.Reading.{number, all_digits, all_zeros, strip_zeros, is_digit, holds}

-- ---- truth values

-- a test by its two outcomes
pub by_test : {P : Type 0} (t : Bool) → (t ≡ true → P) → (t ≡ false → P) → P
by_test true f g = f refl
by_test false f g = g refl

pub both : (a b : Bool) → (a && b) ≡ true → (a ≡ true) × (b ≡ true)
both true b e = (refl, e)
both false b e = absurd (true≢false (sym e))

pub both_of : (a b : Bool) → a ≡ true → b ≡ true → (a && b) ≡ true
both_of a b e f = simp (e, f)

pub le_or : (m n : ℕ) → (m ≤ n) ⊎ (n < m)
le_or m n = elim (dec_le m n) as (λ d. (m ≤ n) ⊎ (n < m)) [ yes h ↦ inl h | no h ↦ inr (omega (arith, h)) ]

pub neither : (a b : Bool) → a ≡ false → b ≡ false → (a || b) ≡ false
neither a b e f = simp (e, f)

pub neither_of : (a b : Bool) → (a || b) ≡ false → (a ≡ false) × (b ≡ false)
neither_of true b e = absurd (true≢false e)
neither_of false b e = (refl, e)

pub eq_or : (m n : ℕ) → (m ≡ n) ⊎ (m ≡ n → ⊥)
eq_or m n = by_test (eqb m n) (λ e. inl (eqb-true m n e)) (λ e. inr (eqb-false m n e))

pub byte_digit : (b : ℕ) → is_digit b ≡ true → (48 ≤ b) × (b ≤ 57)
byte_digit b e = let p = both (leb 48 b) (leb b 57) e in (leb-true 48 b p.0, leb-true b 57 p.1)

-- ---- powers of ten

pub pow_pos : (n : ℕ) → 1 ≤ 10 ^ n
pow_pos n = one-le-pow n 10 (omega arith)

pub pow-le : {i j : ℕ} → i ≤ j → 10 ^ i ≤ 10 ^ j
pow-le h = pow-le-pow_right (omega arith) h

-- ---- lists

pub digits_append : (a b : List ℕ) → all_digits a ≡ true → all_digits b ≡ true → all_digits (a ++ b) ≡ true
unfolding all_digits
digits_append [] b p q = q
digits_append (x ∷ a) b p q =
    let h = both (is_digit x) (all_digits a) p in both_of (is_digit x) (all_digits (a ++ b)) h.0 (digits_append a b h.1 q)

pub digits_parts : (a b : List ℕ) → all_digits (a ++ b) ≡ true → (all_digits a ≡ true) × (all_digits b ≡ true)
unfolding all_digits
digits_parts [] b p = (refl, p)
digits_parts (x ∷ a) b p =
    let h = both (is_digit x) (all_digits (a ++ b)) p in
    let r = digits_parts a b h.1 in (both_of (is_digit x) (all_digits a) h.0 r.0, r.1)

pub digits_split : (n : ℕ) (s : List ℕ) → all_digits s ≡ true → (all_digits (take n s) ≡ true) × (all_digits (drop n s) ≡ true)
digits_split n s h = digits_parts (take n s) (drop n s) (rw take-append-drop h)

pub digits_zeros : (n : ℕ) → all_digits (replicate n 48) ≡ true
unfolding all_digits
digits_zeros zero = refl
digits_zeros (suc n) = digits_zeros n

pub zeros_zeros : (n : ℕ) → all_zeros (replicate n 48) ≡ true
unfolding all_zeros
zeros_zeros zero = refl
zeros_zeros (suc n) = zeros_zeros n

pub no_point : (s : List ℕ) → all_digits s ≡ true → holds 46 s ≡ false
unfolding all_digits holds
no_point [] p = refl
no_point (x ∷ s) p =
    let h = both (is_digit x) (all_digits s) p in
    let d = byte_digit x h.0 in simp (ne_eqb x 46 (λ e. omega arith), no_point s h.1)

-- ---- the number that digits write

pub number_append : (n : ℕ) (a b : List ℕ) → number n (a ++ b) ≡ number (number n a) b
unfolding number
number_append n [] b = refl
number_append n (x ∷ a) b = number_append (n * 10 + (x - 48)) a b

pub number_shift : (n : ℕ) (s : List ℕ) → number n s ≡ n * 10 ^ length s + number 0 s
unfolding number
number_shift n [] = rw (pow-zero, mul-one, add-zero)
number_shift n (x ∷ s) =
    let p = 10 ^ length s in
    let d = x - 48 in
    let e = number_shift (n * 10 + d) s in
    let f = number_shift (0 * 10 + d) s in
    let g : (n * 10 + d) * p ≡ n * (10 * p) + d * p = simp (add-mul, mul_assoc) in
    let h : (0 * 10 + d) * p ≡ d * p = ap (λ (k : ℕ). k * p) (zero-add d) in
    rw pow-succ' (omega (arith, e, f, g, h))

pub number_split : (a b : List ℕ) → number 0 (a ++ b) ≡ number 0 a * 10 ^ length b + number 0 b
number_split a b = number_append 0 a b ∙ number_shift (number 0 a) b

pub number_cons : (b : ℕ) (s : List ℕ) → number 0 (b ∷ s) ≡ (b - 48) * 10 ^ length s + number 0 s
unfolding number
number_cons b s = number_shift (0 * 10 + (b - 48)) s ∙ ap (λ (k : ℕ). k * 10 ^ length s + number 0 s) (zero-add (b - 48))

pub number_lt : (s : List ℕ) → all_digits s ≡ true → number 0 s < 10 ^ length s
unfolding all_digits
number_lt [] p = unfold number in omega arith
number_lt (x ∷ s) p =
    let h = both (is_digit x) (all_digits s) p in
    let d = byte_digit x h.0 in
    let q : x - 48 < 10 = omega arith in
    rw (number_cons, pow-succ') (digits_lt q (number_lt s h.1))

pub number_ge : (b : ℕ) (s : List ℕ) → 49 ≤ b → 10 ^ length s ≤ number 0 (b ∷ s)
number_ge b s h =
    let q : 1 ≤ b - 48 = omega arith in
    rw number_cons (le_trans (rw one-mul at (mul-le-mul_right (10 ^ length s) q)) (le-add_right _ _))

pub zeros_number : (s : List ℕ) → all_zeros s ≡ true → number 0 s ≡ 0
unfolding all_zeros
zeros_number [] p = unfold number in refl
zeros_number (x ∷ s) p =
    let h = both (eqb x 48) (all_zeros s) p in
    let e : x - 48 ≡ 0 = omega (arith, eqb-true x 48 h.0) in
    number_cons x s ∙ rw (e, zeros_number s h.1, zero-mul)

pub number_zeros : (s : List ℕ) → all_digits s ≡ true → number 0 s ≡ 0 → all_zeros s ≡ true
unfolding all_zeros all_digits
number_zeros [] p z = refl
number_zeros (x ∷ s) p z =
    let h = both (is_digit x) (all_digits s) p in
    let d = byte_digit x h.0 in
    let n = sym (number_cons x s) ∙ z in
    let r : number 0 s ≡ 0 = omega arith in
    ⊎_elim
    (λ l. both_of (eqb x 48) (all_zeros s) (eq-eqb x 48 (omega arith)) (number_zeros s h.1 r))
    (λ l. absurd (omega (arith, number_ge x s l, pow_pos (length s))))
    (le_or x 48)

-- ---- leading zeros

-- no leading zero
abbrev pub Leading : List ℕ → Type 0
Leading [] = Unit {0}
Leading (b ∷ s) = b ≡ 48 → ⊥

strip_cons : (b : ℕ) (s : List ℕ) → (strip_zeros (b ∷ s) ≡ strip_zeros s × (b ≡ 48)) ⊎ (strip_zeros (b ∷ s) ≡ b ∷ s × (b ≡ 48 → ⊥))
unfolding strip_zeros
strip_cons b s = go (eqb b 48) refl
  where
    go : (t : Bool) → eqb b 48 ≡ t → (cond t (strip_zeros s) (b ∷ s) ≡ strip_zeros s × (b ≡ 48)) ⊎ (cond t (strip_zeros s) (b ∷ s) ≡ b ∷ s × (b ≡ 48 → ⊥))
    go true e = inl (refl, eqb-true b 48 e)
    go false e = inr (refl, eqb-false b 48 e)

pub strip_leading : (s : List ℕ) → Leading (strip_zeros s)
strip_leading [] = unfold strip_zeros in tt
strip_leading (b ∷ s) =
    ⊎_elim (λ e. rw e.0 (strip_leading s)) (λ e. rw e.0 e.1) (strip_cons b s)

pub strip_digits : (s : List ℕ) → all_digits s ≡ true → all_digits (strip_zeros s) ≡ true
unfolding all_digits
strip_digits [] p = unfold strip_zeros in refl
strip_digits (b ∷ s) p =
    ⊎_elim (λ e. rw e.0 (strip_digits s (both (is_digit b) (all_digits s) p).1)) (λ e. rw e.0 p) (strip_cons b s)

pub strip_number : (s : List ℕ) → number 0 (strip_zeros s) ≡ number 0 s
strip_number [] = unfold strip_zeros in refl
strip_number (b ∷ s) =
    ⊎_elim
    (λ e. let z : b - 48 ≡ 0 = omega (arith, e.1) in rw (e.0, number_cons, z, zero-mul, zero-add) (strip_number s))
    (λ e. rw e.0)
    (strip_cons b s)

-- ---- the last n bytes

-- what is a multiple of 10^n ends in n zeros
pub multiple_zeros : (a b : List ℕ) (c j : ℕ) → all_digits b ≡ true → number 0 (a ++ b) ≡ c * 10 ^ j → length b ≤ j → all_zeros b ≡ true
multiple_zeros a b c j h e l =
    let n = length b in
    let p : 10 ^ j ≡ 10 ^ (j - n) * 10 ^ n = (let q : j ≡ j - n + n = omega arith in ap (λ (k : ℕ). 10 ^ k) q ∙ pow-add 10 (j - n) n) in
    let m : number 0 (a ++ b) ≡ c * 10 ^ (j - n) * 10 ^ n = e ∙ ap (λ (k : ℕ). c * k) p ∙ sym (mul_assoc c (10 ^ (j - n)) (10 ^ n)) in
    number_zeros b h
    (sym (digits_mod (number 0 a) (number_lt b h))
    ∙ ap (λ (k : ℕ). k % 10 ^ n) (sym (number_split a b) ∙ m)
    ∙ mul-mod_left (c * 10 ^ (j - n)) (10 ^ n))
