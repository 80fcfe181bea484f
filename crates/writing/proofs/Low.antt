-- The lowest digits of a number, and how they come into a buffer from the last to the first.
use mathlib.Core.Path.{◌≡◌, refl, sym, ap, subst, ◌∙◌}
use mathlib.Core.Logic.{⊎_elim}
use mathlib.Core.List.{List, [], ◌∷◌, ◌++◌, append_assoc, append-nil}
use Prim.Native.Nat.{ℕ, zero, suc, ◌+◌, ◌-◌, ◌*◌, ◌/◌, ◌%◌, ◌^◌, ◌≤◌, ◌<◌}
use native.Mathlib.Nat.{add-zero, mul_left_comm, pow-zero, pow-succ', div-div-eq-div-mul, div-lt_iff_lt-mul, div-add-mod', mod-lt, mod-eq_of_lt}
use native.Mathlib.Omega.{arith}
use lib.Pow.{pow-add}
use lib.ListN.{length, set, length-append}
use Rattle.meaning.specs.Writing.{digits_before, decimal}
use Rattle.meaning.proofs.Numbers.{le_or, number_lt, pow_pos}
use Rattle.meaning.proofs.Digits.{last, more, decimal_all, decimal-number}
use Rattle.writing.specs.Pieces.{low}
use Rattle.writing.specs.Written.{written}
use Rattle.writing.proofs.Written.{written_none, written_one, length-written, written-before}

pub length-low : (k n : ℕ) → length (low k n) ≡ k
unfolding low
length-low zero n = refl
length-low (suc k) n = length-append (low k (n / 10)) ((48 + n % 10) ∷ []) ∙ omega (arith, length-low k (n / 10))

-- the digits of two numbers, one behind the other
low-joined : (i w q r : ℕ) → r < 10 ^ w → low (i + w) (q * 10 ^ w + r) ≡ low i q ++ low w r
unfolding low
low-joined i zero q r h =
    let e : q * 10 ^ zero + r ≡ q = rw pow-zero (omega (arith, h)) in
    rw (e, add-zero, append-nil)
low-joined i (suc w) q r h =
    let e : i + suc w ≡ suc (i + w) = omega arith in
    let p : q * 10 ^ suc w ≡ 10 * (q * 10 ^ w) = rw pow-succ' (mul_left_comm q 10 (10 ^ w)) in
    let d : (q * 10 ^ suc w + r) / 10 ≡ q * 10 ^ w + r / 10 = omega arith in
    let m : (q * 10 ^ suc w + r) % 10 ≡ r % 10 = omega arith in
    let b : r < 10 * 10 ^ w = rw pow-succ' at h in
    rw (e, d, m, low-joined i w q (r / 10) (omega arith), append_assoc)

-- the last w digits of a number, and the j before them
split : (w j i n : ℕ) → j + w ≡ i → low i n ≡ low j (n / 10 ^ w) ++ low w (n % 10 ^ w)
split w j i n e = rw (e, div-add-mod') at (low-joined j w (n / 10 ^ w) (n % 10 ^ w) (mod-lt n (pow_pos w)))

-- the last w digits are those of the remainder
pub low-mod : (w n : ℕ) → low w n ≡ low w (n % 10 ^ w)
unfolding low
low-mod w n = split w 0 w n (omega arith)

pub low_split : (w j i n : ℕ) → j + w ≡ i → low i n ≡ low j (n / 10 ^ w) ++ low w n
low_split w j i n e = split w j i n e ∙ rw (← low-mod w n)

low_one : (r : ℕ) → r < 10 → low 1 r ≡ (48 + r) ∷ []
unfolding low
low_one r h = rw (mod-eq_of_lt h)

-- ---- as many as there are give the number whole

longer : (f n : ℕ) (s : List ℕ) → length s < length (digits_before (suc f) n s)
longer zero n s = ⊎_elim (λ g. rw (more 0 n s g) (unfold digits_before in omega arith)) (λ g. rw (last 0 n s g) (omega arith)) (le_or 10 n)
longer (suc f) n s =
    ⊎_elim
    (λ g. rw (more (suc f) n s g) (omega (arith, longer f (n / 10) ((48 + n % 10) ∷ s))))
    (λ g. rw (last (suc f) n s g) (omega arith))
    (le_or 10 n)

low-before : (f k n : ℕ) (s : List ℕ) → length (digits_before f n s) ≡ k + length s → low k n ++ s ≡ digits_before f n s
unfolding low
low-before zero zero n s e = unfold digits_before in refl
low-before zero (suc k) n s e = let g : length s ≡ suc k + length s = unfold digits_before in e in absurd (omega arith)
low-before (suc f) zero n s e = absurd (omega (arith, longer f n s))
low-before (suc f) (suc k) n s e =
    ⊎_elim
    (λ g.
    let l = rw (more f n s g) at e in
    rw (more f n s g, append_assoc) (low-before f k (n / 10) ((48 + n % 10) ∷ s) (omega arith)))
    (λ g.
    let l = rw (last f n s g) at e in
    let z : k ≡ 0 = omega arith in
    rw (last f n s g, z, mod-eq_of_lt g))
    (le_or 10 n)

pub low_all : (k n : ℕ) → k ≡ length (decimal n) → low k n ≡ decimal n
unfolding decimal
low_all k n e = sym (append-nil (low k n)) ∙ low-before 40 k n [] (omega arith)

-- n, as long as it is
pub below_all : (k n : ℕ) → n < 10 ^ 34 → k ≡ length (decimal n) → n < 10 ^ k
below_all k n h e = rw e (rw (decimal-number n h) at (number_lt (decimal n) (decimal_all n h)))

-- ---- digits in a buffer, from the last on

-- the last w digits stand, and the j before them are put
pub low_put : (w at j i n : ℕ) (b : List ℕ) {c d : List ℕ} → j + w ≡ i → at + i ≤ length b →
    c ≡ written (at + j) (low w n) b → d ≡ written at (low j (n / 10 ^ w)) c → d ≡ written at (low i n) b
low_put w at j i n b s l e f =
    f ∙ rw (e, written-before at (at + j) (low j (n / 10 ^ w)) (low w n) b (rw length-low) (omega arith), ← low_split w j i n s)

-- what stands before them has no more than j digits
pub before-below : (w j i n : ℕ) → j + w ≡ i → n < 10 ^ i → n / 10 ^ w < 10 ^ j
before-below w j i n s l = (div-lt_iff_lt-mul (pow_pos w)).1 (rw (← pow-add, s) l)

-- the first digit
pub first_put : (at k v : ℕ) (b : List ℕ) {c : List ℕ} {r : ℕ} → 0 < k → v < 10 ^ k → at + k ≤ length b →
    c ≡ written (at + 1) (low (k - 1) v) b → r ≡ v / 10 ^ (k - 1) → set c at (48 + r) ≡ written at (low k v) b
first_put at k v b {c} {r} h l room e f =
    let s : 1 + (k - 1) ≡ k = omega arith in
    let d : r < 10 = rw f (before-below (k - 1) 1 k v s l) in
    let m : length c ≡ length b = ap length e ∙ length-written (at + 1) (low (k - 1) v) b (rw length-low (omega arith)) in
    low_put (k - 1) at 1 k v b s room e (written_one at (48 + r) c (omega arith) ∙ rw (← low_one r d, f))

-- ---- a loop: what is left to write, written now, gives the buffer f

-- a turn: one digit more is in its place, behind those that are left
pub turn : (at i n q r : ℕ) (b f : List ℕ) → 0 < i → at + i ≤ length b → q ≡ n / 10 → r ≡ n % 10 →
    written at (low i n) b ≡ f → written at (low (i - 1) q) (set b (at + (i - 1)) (48 + r)) ≡ f
turn at i n q r b f h l e g k =
    let o : (48 + r) ∷ [] ≡ low 1 n = sym (rw (low-mod 1 n, ← g) (low_one r (omega arith))) in
    low_put 1 at (i - 1) i n b (omega arith) l (written_one (at + (i - 1)) (48 + r) b (omega arith) ∙ rw o) (rw e) ∙ k

-- what is left above the digits that are in their place
pub tenth : {i : ℕ} (n : ℕ) → 0 < i → n / 10 / 10 ^ (i - 1) ≡ n / 10 ^ i
tenth {i} n h =
    let e : suc (i - 1) ≡ i = omega arith in
    div-div-eq-div-mul n 10 (10 ^ (i - 1)) ∙ rw (← pow-succ' 10 (i - 1), e)

-- nothing is left to write
pub done : (at i n : ℕ) (b f : List ℕ) → i ≡ 0 → written at (low i n) b ≡ f → b ≡ f
unfolding low
done at i n b f z w = sym (written_none at b) ∙ subst (λ (j : ℕ). written at (low j n) b ≡ f) z w
