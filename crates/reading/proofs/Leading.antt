-- Runs that begin with no zero: their number has as many digits as they have bytes.
use mathlib.Core.Path.{◌≡◌, refl, sym, subst}
use mathlib.Core.Bool.{true}
use mathlib.Core.List.{List, [], ◌∷◌, ◌++◌}
use Prim.Native.Nat.{ℕ, zero, suc, ◌+◌, ◌*◌, ◌^◌, ◌≤◌, max}
use native.Mathlib.Nat.{add_comm, mul-le-mul_right, one-mul, mul-div_left}
use native.Mathlib.Omega.{arith}
use lib.ListN.{length, take, length-take}
use lib.Seq.{length-take-le}
use borrow.Author.Tests.{ne_eqb, eqb-true}
use Rattle.meaning.specs.Reading.{is_digit, all_digits, all_zeros, strip_zeros, number}
use Rattle.meaning.proofs.Numbers.{both, byte_digit, pow_pos, number_lt, number_ge, Leading, strip_leading, strip_digits, strip_number}
use Rattle.limbs.specs.Count.{Counts}
use Rattle.limbs.proofs.Counting.{zero_counts, counts_between, counts_more}
use Rattle.reading.specs.Run.{Leads}

leading_strip : (s : List ℕ) → Leading s → strip_zeros s ≡ s
unfolding strip_zeros
leading_strip [] h = refl
leading_strip (b ∷ s) h = rw (ne_eqb b 48 h)

leads_of : (s : List ℕ) (n : ℕ) → Leading s → length s ≡ n → 1 ≤ n → Leads s n
leads_of s n h e l = record { count = e; some = l; first = leading_strip s h }

leading_of : (s : List ℕ) (n : ℕ) → Leads s n → Leading s
leading_of s n h = subst Leading h.first (strip_leading s)

-- ---- parts of a run

pub leads_take : (s : List ℕ) (n : ℕ) → Leading s → 1 ≤ n → n ≤ length s → Leads (take n s) n
leads_take s zero h l m = absurd (omega arith)
leads_take [] (suc n) h l m = absurd (omega arith)
leads_take (b ∷ s) (suc n) h l m = leads_of (b ∷ take n s) (suc n) h (length-take-le (suc n) (b ∷ s) m) l

pub leads_most : (s : List ℕ) (n : ℕ) → Leads (take n s) n → n ≤ length s
leads_most s n h = omega (arith, h.count, length-take n s)

-- what stands before zeros
pub leads_front : (k l : List ℕ) (n m : ℕ) → Leads (k ++ l) n → all_zeros l ≡ true → length k ≡ m → Leads k m
unfolding all_zeros
leads_front [] [] n m h z e = absurd (omega (arith, h.count, h.some))
leads_front [] (b ∷ l) n m h z e = absurd (leading_of (b ∷ l) n h (eqb-true b 48 (both _ _ z).0))
leads_front (b ∷ k) l n m h z e = leads_of (b ∷ k) m (leading_of (b ∷ (k ++ l)) n h) e (omega arith)

-- ---- its number

first_digit : (b : ℕ) (s : List ℕ) (n : ℕ) → Leads (b ∷ s) n → all_digits (b ∷ s) ≡ true → 10 ^ length s ≤ number 0 (b ∷ s)
first_digit b s n h d =
    let l = byte_digit b (both (is_digit b) (all_digits s) (unfold all_digits in d)).0 in
    let f = leading_of (b ∷ s) n h in
    number_ge b s (omega arith)

leads_counts : (s : List ℕ) (n : ℕ) → Leads s n → all_digits s ≡ true → Counts (number 0 s) n
leads_counts [] n h d = absurd (omega (arith, h.count, h.some))
leads_counts (b ∷ s) n h d =
    counts_between (length s) n (number 0 (b ∷ s)) (sym h.count) (first_digit b s n h d) (rw h.count at (number_lt (b ∷ s) d))

leads_some : (s : List ℕ) (n : ℕ) → Leads s n → all_digits s ≡ true → 1 ≤ number 0 s
leads_some [] n h d = absurd (omega (arith, h.count, h.some))
leads_some (b ∷ s) n h d = omega (arith, first_digit b s n h d, pow_pos (length s))

-- with zeros before it
pub strip_counts : (s : List ℕ) → all_digits s ≡ true → Counts (number 0 s) (max 1 (length (strip_zeros s)))
strip_counts s d = rw (← strip_number s) (go (strip_zeros s) (strip_leading s) (strip_digits s d))
  where
    go : (t : List ℕ) → Leading t → all_digits t ≡ true → Counts (number 0 t) (max 1 (length t))
    go [] h d = unfold number in zero_counts
    go (b ∷ t) h d = let e : max 1 (length (b ∷ t)) ≡ length (b ∷ t) = omega arith in rw e (leads_counts (b ∷ t) _ (leads_of (b ∷ t) _ h refl (omega arith)) d)

-- with zeros behind it
pub padded_counts : (s : List ℕ) (n p : ℕ) → Leads s n → all_digits s ≡ true → Counts (number 0 s * 10 ^ p) (n + p)
padded_counts s n p h d =
    let v = number 0 s in
    let l : 10 ^ p ≤ v * 10 ^ p = rw one-mul at (mul-le-mul_right (10 ^ p) (leads_some s n h d)) in
    rw (add_comm n p) (counts_more p (v * 10 ^ p) n l (rw (mul-div_left v (pow_pos p)) (leads_counts s n h d)))
