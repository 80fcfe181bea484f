-- Laws of written exponents: digits of any number, and what is written after the sign.
use mathlib.Core.Path.{◌≡◌, refl, ap, ◌∙◌}
use mathlib.Core.Logic.{inl, inr, ⊎_elim}
use mathlib.Core.Bool.{Bool, true, false, cond, not, ◌&&◌}
use mathlib.Core.List.{List, [], ◌∷◌}
use Prim.Native.Nat.{ℕ, ◌+◌, ◌-◌, ◌*◌, ◌^◌, ◌≤◌, ◌<◌, min}
use native.Mathlib.Nat.{le_trans, lt_of_lt_of_le, pow-succ'}
use native.Mathlib.Numerals.{add-one}
use native.Mathlib.Omega.{arith}
use lib.Dec.{leb, ltb, lit<, lit≤}
use lib.ListN.{length, take, drop, get_or, length-take}
use Rattle.std.specs.Prelude.{slice_get}
use Rattle.std.proofs.lemmas.List.{get_or-take, drop_more}
use lib.Seq.{drop-length}
use borrow.Author.Tests.{lt-ltb, le-ltb, le-leb, lt-leb, leb-true, ne_eqb}
use Rattle.meaning.specs.Reading.{origin, is_digit, all_digits, some_digits, number, exponent, Written}
use Rattle.meaning.specs.Reading.Written.{written, wrong}
use Rattle.meaning.proofs.Numbers.{le_or, both_of, byte_digit, pow-le}
use Rattle.limbs.specs.Value.{value}
use Rattle.limbs.specs.Wide.{Spells, in_range, signed, Signed, WrittenAs}
use Rattle.std.specs.Prelude.{Option, Some, None}

pub past_origin : {v : ℕ} → 2 ^ 128 ≤ v → origin < v
unfolding origin
past_origin h = lt_of_lt_of_le (lit< tt) h

-- ---- digits

-- those that are read do not make the number less
grows : (n : ℕ) (t : List ℕ) → n ≤ number n t
unfolding number
grows n [] = omega arith
grows n (b ∷ t) = le_trans (omega arith) (grows (n * 10 + (b - 48)) t)

spells_cons : (n b : ℕ) (t : List ℕ) (r : Option (List ℕ)) → is_digit b ≡ true → Spells (n * 10 + (b - 48)) t r → Spells n (b ∷ t) r
unfolding Spells all_digits number
spells_cons n b t (Some v) d e = (both_of (is_digit b) (all_digits t) d e.0, e.1)
spells_cons n b t None d e = ⊎_elim (λ f. inl (rw d f)) (λ f. inr f) e

no_digit : (b : ℕ) (t : List ℕ) → is_digit b ≡ false → all_digits (b ∷ t) ≡ false
unfolding all_digits
no_digit b t d = rw d

-- the digits from i on, of which the first is at i
module _ (s : List ℕ) (i n : ℕ) (l : i < length s) where
  spells_next : {m : ℕ} (r : Option (List ℕ)) → is_digit (get_or s i 0) ≡ true → m ≡ n * 10 + (get_or s i 0 - 48) → Spells m (drop (i + 1) s) r → Spells n (drop i s) r
  spells_next r d e h = rw (drop_more s i 0 l) (spells_cons n (get_or s i 0) (drop (i + 1) s) r d (rw e at h))

  no_digit_at : is_digit (get_or s i 0) ≡ false → Spells n (drop i s) None
  unfolding Spells
  no_digit_at h = rw (drop_more s i 0 l) (inl (no_digit (get_or s i 0) (drop (i + 1) s) h))

  too_large_at : 2 ^ 128 ≤ n * 10 + (get_or s i 0 - 48) → Spells n (drop i s) None
  unfolding Spells number
  too_large_at h = rw (drop_more s i 0 l) (inr (le_trans h (grows (n * 10 + (get_or s i 0 - 48)) (drop (i + 1) s))))

-- a loop over the digits of s, which is at i and has read n: what is left to read from there answers for all
pub record Spelling (s : List ℕ) (start i n : ℕ) : Type 0 where
  pub within : i ≤ length s
  pub rest : (r : Option (List ℕ)) → Spells n (drop i s) r → Spells start s r

module _ {s : List ℕ} {start i n : ℕ} (p : Spelling s start i n) where
  pub spelling_goes_on : {m : ℕ} → i < length s → is_digit (get_or s i 0) ≡ true → m ≡ n * 10 + (get_or s i 0 - 48) → Spelling s start (i + 1) m
  spelling_goes_on l d e = record { within = omega arith; rest = λ r h. p.rest r (spells_next s i n l r d e h) }

  pub no_digit_here : i < length s → is_digit (get_or s i 0) ≡ false → Spells start s None
  no_digit_here l d = p.rest None (no_digit_at s i n l d)

  pub too_large_here : i < length s → 2 ^ 128 ≤ n * 10 + (get_or s i 0 - 48) → Spells start s None
  too_large_here l h = p.rest None (too_large_at s i n l h)

  -- none are left
  pub all_spelt : (v : List ℕ) → i ≡ length s → value v ≡ n → Spells start s (Some v)
  unfolding Spells all_digits number
  all_spelt v e f = p.rest (Some v) (rw (e, drop-length) (refl, f))

digit_small : (b : ℕ) → is_digit b ≡ true → b - 48 < 10
digit_small b e = let d = byte_digit b e in omega arith

-- eighteen digits fit 64 bits
digit_more : (k : ℕ) {n d : ℕ} → n < 10 ^ k → d < 10 → n * 10 + d < 10 ^ (k + 1)
digit_more k h l = rw (add-one, pow-succ') (omega arith)

eighteen : (k : ℕ) {n d : ℕ} → n < 10 ^ k → d < 10 → k < 18 → n * 10 + d < 2 ^ 64
eighteen k h d l = lt_of_lt_of_le (digit_more k h d) (le_trans (pow-le {i = k + 1} {j = 18} (omega arith)) (lit≤ tt))

-- a byte among the first k, which are at most eighteen
module _ (s : List ℕ) {k i : ℕ} (few : k ≡ min (length s) 18) (l : i < length (take k s)) where
  inside : (i < length s) × (i < 18)
  inside = let m : i < k = omega (arith, rw length-take at l) in (omega arith, omega arith)

  here : get_or (take k s) i 0 ≡ get_or s i 0
  here = get_or-take k s i 0 (omega (arith, rw length-take at l))

  pub no_digit_taken : {start n : ℕ} → Spelling s start i n → is_digit (get_or (take k s) i 0) ≡ false → Spells start s None
  no_digit_taken p d = no_digit_here p inside.0 (rw here at d)

  pub digit_fits : {n : ℕ} → n < 10 ^ i → is_digit (get_or (take k s) i 0) ≡ true → n * 10 + (get_or (take k s) i 0 - 48) < 2 ^ 64
  digit_fits h d = eighteen i h (digit_small _ d) inside.1

  pub digit_taken : {start n : ℕ} → Spelling s start i n → n < 10 ^ i → is_digit (get_or (take k s) i 0) ≡ true →
      Spelling s start (i + 1) (n * 10 + (get_or (take k s) i 0 - 48)) × (n * 10 + (get_or (take k s) i 0 - 48) < 10 ^ (i + 1))
  digit_taken p h d = (spelling_goes_on p inside.0 (rw here at d) (rw here refl), digit_more i h (digit_small _ d))

-- ---- the range

leb_not : (m n : ℕ) → not (ltb n m) ≡ leb m n
leb_not m n = ⊎_elim (λ h. simp (le-ltb n m h, le-leb m n h)) (λ h. simp (lt-ltb n m h, lt-leb m n h)) (le_or m n)

pub in_minus : {neg t : Bool} (v : ℕ) → neg ≡ true → t ≡ ltb origin v → not t ≡ in_range neg v
in_minus v e f = rw (e, f) (leb_not v origin)

pub in_plus : {neg t : Bool} (v : ℕ) → neg ≡ false → t ≡ ltb v origin → t ≡ in_range neg v
in_plus v e f = rw e f

-- a test that was made
pub in_range_lem : (v : ℕ) → in_range true v ≡ true → v ≤ origin
in_range_lem v e = leb-true v origin e

-- ---- what is written after the sign

abbrev signed_of : Bool → ℕ → ℕ
signed_of true v = origin - v
signed_of false v = origin + v

signed_is : (neg : Bool) (t : List ℕ) → signed neg t ≡ cond (some_digits t && in_range neg (number 0 t)) (written (signed_of neg (number 0 t))) wrong
signed_is true t = refl
signed_is false t = refl

signed_of_lem : (neg : Bool) (v : ℕ) → in_range neg v ≡ true → Signed neg v (signed_of neg v)
unfolding Signed
signed_of_lem true v h = omega (arith, leb-true v origin h)
signed_of_lem false v h = refl

too_large_any : (neg : Bool) (v : ℕ) → origin < v → in_range neg v ≡ false
too_large_any true v h = lt-leb v origin h
too_large_any false v h = le-ltb v origin (omega arith)

empty_wrong : (neg : Bool) → signed neg [] ≡ wrong
unfolding some_digits
empty_wrong true = refl
empty_wrong false = refl

range_wrong : (neg : Bool) (t : List ℕ) → in_range neg (number 0 t) ≡ false → signed neg t ≡ wrong
range_wrong neg t h = signed_is neg t ∙ rw h (nothing (some_digits t))
  where
    nothing : (b : Bool) → cond (b && false) (written (signed_of neg (number 0 t))) wrong ≡ wrong
    nothing true = refl
    nothing false = refl

digits_wrong : (neg : Bool) (t : List ℕ) → all_digits t ≡ false → signed neg t ≡ wrong
unfolding some_digits
digits_wrong neg [] h = empty_wrong neg
digits_wrong neg (b ∷ t) h = signed_is neg (b ∷ t) ∙ rw h

not_written : {w : Written} → w ≡ wrong → WrittenAs w None
unfolding WrittenAs
not_written e = rw e refl

-- nothing is written
pub none_written : (neg : Bool) (t : List ℕ) → t ≡ [] → WrittenAs (signed neg t) None
none_written neg t e = not_written (rw e (empty_wrong neg))

-- the digits are not good
pub bad_written : (neg : Bool) (t : List ℕ) → Spells 0 t None → WrittenAs (signed neg t) None
unfolding Spells
bad_written neg t h =
    not_written
    (⊎_elim (digits_wrong neg t) (λ l. range_wrong neg t (too_large_any neg (number 0 t) (past_origin l))) h)

-- or they write too large a number
pub large_written : (neg : Bool) (t v : List ℕ) → Spells 0 t (Some v) → in_range neg (value v) ≡ false → WrittenAs (signed neg t) None
unfolding Spells
large_written neg t v h f = not_written (range_wrong neg t (rw h.1 at f))

-- or all is well
pub is_written : (neg : Bool) (t v : List ℕ) → (t ≡ [] → ⊥) → Spells 0 t (Some v) → in_range neg (value v) ≡ true →
    WrittenAs (signed neg t) (Some (record { negative = neg; size = v }))
unfolding Spells WrittenAs some_digits
is_written neg [] v some h f = absurd (some refl)
is_written neg (b ∷ t) v some h f = rw (signed_is neg (b ∷ t), h.0, ← h.1, f) (signed_of_lem neg (value v) f)

-- ---- the sign

-- x is the first byte of s
after_first : (s : List ℕ) (x : ℕ) → Some x ≡ slice_get s 0 → s ≡ x ∷ drop 1 s
after_first [] x e = absurd (cc)
after_first (y ∷ t) x e = cc

module _ (s : List ℕ) {x : ℕ} (e : Some x ≡ slice_get s 0) where
  pub after_minus : x ≡ 45 → exponent s ≡ signed true (drop 1 s)
  unfolding exponent
  after_minus h = ap exponent (after_first s x e) ∙ rw h refl

  pub after_plus : x ≡ 43 → exponent s ≡ signed false (drop 1 s)
  unfolding exponent
  after_plus h = ap exponent (after_first s x e) ∙ rw h refl

  pub after_none : (x ≡ 45 → ⊥) → (x ≡ 43 → ⊥) → exponent s ≡ signed false s
  unfolding exponent
  after_none h k = rw (after_first s x e) (rw (ne_eqb x 45 h, ne_eqb x 43 k))

pub nothing_written : (s : List ℕ) → None ≡ slice_get s 0 → WrittenAs (exponent s) None
unfolding exponent WrittenAs
nothing_written [] e = refl
nothing_written (y ∷ t) e = absurd (cc)
