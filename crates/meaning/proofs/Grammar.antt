-- Steps 1 to 6 on a text by the grammar, and demand 3.
use mathlib.Core.Path.{◌≡◌, refl, sym, ap, ◌∙◌}
use mathlib.Core.Logic.{inl, inr, ⊎_elim}
use mathlib.Core.Bool.{Bool, true, false}
use mathlib.Core.List.{List, [], ◌∷◌, ◌++◌, map, append_assoc, append-nil}
use Prim.Native.Nat.{ℕ, ◌+◌, ◌-◌, ◌≤◌, ◌<◌}
use native.Mathlib.Omega.{arith}
use lib.ListN.{length, drop, length-append}
use borrow.Author.Tests.{le-leb, lt-leb, lt-ltb, ne_eqb}
use Rattle.meaning.specs.Reading.{Located, bytes, lower, is_digit, same, number, all_digits, decimal_part, before, from, fraction, some_digits, origin, exponent, upward, downward, strip_zeros, step2, step3, step4, step5, step6, step7, read_at, read_text}
use Rattle.meaning.specs.Reading.Written.{written}
use Rattle.meaning.specs.Grammar.{Sign, Fraction, Power, FiniteText, WrittenE, Grammatical, sign_text, negative, fraction_text, after, letter, power_text, text_of, digits_of, whole_of}
use Rattle.meaning.specs.Promises.{Demand3, RefusedOnlyByValue}
use Rattle.meaning.specs.Grammar.Sign.{none, plus, minus}
use Rattle.meaning.specs.Grammar.Fraction.{no_point, point}
use Rattle.meaning.specs.Grammar.Power.{no_power, power}
use Rattle.meaning.proofs.Numbers.{both, byte_digit, digits_parts, strip_leading, strip_digits, strip_number}
use Rattle.meaning.proofs.Stored.{Outcome, seven}

-- ---- bytes from `.` to `9`

abbrev Mid : List ℕ → Type 0
Mid [] = Unit {0}
Mid (b ∷ s) = (46 ≤ b) × (b ≤ 57) × Mid s

mid_append : (a b : List ℕ) → Mid a → Mid b → Mid (a ++ b)
mid_append [] b p q = q
mid_append (x ∷ a) b p q = (p.0, p.1, mid_append a b p.2 q)

mid_digits : (s : List ℕ) → all_digits s ≡ true → Mid s
unfolding all_digits
mid_digits [] p = tt
mid_digits (b ∷ s) p =
    let h = both (is_digit b) (all_digits s) p in
    let d = byte_digit b h.0 in (omega arith, omega arith, mid_digits s h.1)

mid_fraction : (f : Fraction) → all_digits (after f) ≡ true → Mid (fraction_text f)
mid_fraction no_point p = tt
mid_fraction (point s) p = (omega arith, omega arith, mid_digits s p)

mid_lower : (a p : List ℕ) → Mid a → map lower (a ++ p) ≡ a ++ map lower p
mid_lower [] p m = refl
mid_lower (b ∷ a) p m =
    let e : lower b ≡ b = simp (lt-leb 65 b (omega (arith, m.1))) in rw (e, mid_lower a p m.2)

-- a byte that does not stand in the list
abbrev Free : ℕ → List ℕ → Type 0
Free c [] = Unit {0}
Free c (b ∷ s) = (b ≡ c → ⊥) × Free c s

mid_free : (s : List ℕ) → Mid s → Free 101 s
mid_free [] m = tt
mid_free (b ∷ s) m = (λ e. omega (arith, m.1), mid_free s m.2)

digits_free : (s : List ℕ) → all_digits s ≡ true → Free 46 s
unfolding all_digits
digits_free [] p = tt
digits_free (b ∷ s) p =
    let h = both (is_digit b) (all_digits s) p in
    let d = byte_digit b h.0 in (λ e. omega arith, digits_free s h.1)

before_free : (c : ℕ) (a p : List ℕ) → Free c a → before c (a ++ p) ≡ a ++ before c p
unfolding before
before_free c [] p f = refl
before_free c (b ∷ a) p f = rw (ne_eqb b c f.0, before_free c a p f.1)

from_free : (c : ℕ) (a p : List ℕ) → Free c a → from c (a ++ p) ≡ from c p
unfolding from
from_free c [] p f = refl
from_free c (b ∷ a) p f = rw (ne_eqb b c f.0) (from_free c a p f.1)

-- ---- steps 1 and 2

module _ (b : ℕ) (r : List ℕ) (p : 46 ≤ b) (q : b ≤ 57) where
  signed : (g : Sign) → read_at (sign_text g ++ (b ∷ r)) ≡ step2 (sign_text g ++ (b ∷ r)) (negative g) (map lower (b ∷ r))
  unfolding read_at
  signed none = simp (ne_eqb b 45 (λ e. omega arith), ne_eqb b 43 (λ e. omega arith))
  signed plus = refl
  signed minus = refl

  special : (text : List ℕ) (g : Bool) → step2 text g (b ∷ r) ≡ step3 text g (before 101 (b ∷ r)) (from 101 (b ∷ r))
  unfolding step2 same bytes
  special text g = simp (ne_eqb b 110 (λ e. omega arith), ne_eqb b 115 (λ e. omega arith), ne_eqb b 105 (λ e. omega arith))

start : (g : Sign) (d q : List ℕ) → 1 ≤ length d → Mid d → read_at (sign_text g ++ (d ++ q)) ≡ step3 (sign_text g ++ (d ++ q)) (negative g) (before 101 (d ++ map lower q)) (from 101 (d ++ map lower q))
start g [] q l m = absurd (omega arith)
start g (b ∷ r) q l m =
    signed b (r ++ q) m.0 m.1 g
    ∙ rw (mid_lower (b ∷ r) q m) (special b (r ++ map lower q) m.0 m.1 _ (negative g))

-- ---- steps 3 and 5: the exponent part

some_is : (s : List ℕ) → 1 ≤ length s → all_digits s ≡ true → some_digits s ≡ true
unfolding some_digits
some_is [] l p = absurd (omega arith)
some_is (b ∷ s) l p = p

upward_is : (s : List ℕ) → 1 ≤ length s → all_digits s ≡ true → number 0 s < origin → upward s ≡ written (origin + number 0 s)
upward_is s l p n = simp (some_is s l p, lt-ltb (number 0 s) origin n)

downward_is : (s : List ℕ) → 1 ≤ length s → all_digits s ≡ true → number 0 s ≤ origin → downward s ≡ written (origin - number 0 s)
downward_is s l p n = simp (some_is s l p, le-leb (number 0 s) origin n)

lower_digits : (s : List ℕ) → all_digits s ≡ true → map lower s ≡ s
lower_digits s p = ap (map lower) (sym (append-nil s)) ∙ mid_lower s [] (mid_digits s p) ∙ append-nil s

-- the letter in either case
letter-low : (big : Bool) → lower (letter big) ≡ 101
letter-low true = refl
letter-low false = refl

-- the digits with a mark before them, or none
marked : (g : Sign) (s : List ℕ) (e : ℕ) → WrittenE (power true g s) e → exponent (sign_text g ++ s) ≡ written e
unfolding exponent all_digits
marked none [] e w = absurd (omega (arith, w.0))
marked none (b ∷ s) e w =
    let d = byte_digit b (both (is_digit b) (all_digits s) w.1).0 in
    simp (ne_eqb b 45 (λ f. omega arith), ne_eqb b 43 (λ f. omega arith))
    (upward_is (b ∷ s) w.0 w.1 w.2.1 ∙ ap written (sym w.2.0))
marked plus s e w = upward_is s w.0 w.1 w.2.1 ∙ ap written (sym w.2.0)
marked minus s e w =
    let l : number 0 s ≤ origin = omega (arith, w.2) in
    let f : origin - number 0 s ≡ e = omega (arith, w.2) in
    downward_is s w.0 w.1 l ∙ ap written f

-- what stands after the `e` is not empty
step3_is : (text : List ℕ) (g : Bool) (dec s : List ℕ) (e : ℕ) → exponent s ≡ written e → step3 text g dec (101 ∷ s) ≡ step4 text g dec (written e)
unfolding step3 exponent
step3_is text g dec [] e w = absurd (let z : ◌≡◌ {A = ℕ} 0 1 = cc in omega arith)
step3_is text g dec (b ∷ s) e w = ap (step4 text g dec) w

lower-sign : (g : Sign) (s : List ℕ) → all_digits s ≡ true → map lower (sign_text g ++ s) ≡ sign_text g ++ s
lower-sign none s p = lower_digits s p
lower-sign plus s p = ap (λ (l : List ℕ). 43 ∷ l) (lower_digits s p)
lower-sign minus s p = ap (λ (l : List ℕ). 45 ∷ l) (lower_digits s p)

-- the decimal part d, and what stands after it
split : (text : List ℕ) (g : Bool) (d : List ℕ) (w : Power) (e : ℕ) → Free 101 d → WrittenE w e → step3 text g (before 101 (d ++ map lower (power_text w))) (from 101 (d ++ map lower (power_text w))) ≡ step4 text g d (written e)
unfolding before from step3
split text g d no_power e f w = rw (before_free 101 d [] f, from_free 101 d [] f, append-nil, w)
split text g d (power big m ds) e f w =
    rw (letter-low big, lower-sign m ds w.1, before_free 101 d (101 ∷ sign_text m ++ ds) f, from_free 101 d (101 ∷ sign_text m ++ ds) f, append-nil)
    (step3_is text g d (sign_text m ++ ds) e (marked m ds e w))

-- ---- step 4: the decimal part

part_true : (s p : List ℕ) → all_digits s ≡ true → decimal_part true (s ++ p) ≡ decimal_part true p
unfolding decimal_part all_digits
part_true [] p d = refl
part_true (b ∷ s) p d = let h = both (is_digit b) (all_digits s) d in rw h.0 (part_true s p h.1)

part_one : (seen : Bool) (s p : List ℕ) → 1 ≤ length s → all_digits s ≡ true → decimal_part seen (s ++ p) ≡ decimal_part true p
unfolding decimal_part all_digits
part_one seen [] p l d = absurd (omega arith)
part_one seen (b ∷ s) p l d = let h = both (is_digit b) (all_digits s) d in rw h.0 (part_true s p h.1)

part_end : (s : List ℕ) → all_digits s ≡ true → decimal_part true s ≡ true
unfolding decimal_part
part_end s d = ap (decimal_part true) (sym (append-nil s)) ∙ part_true s [] d

decimal : (w : List ℕ) (f : Fraction) → all_digits w ≡ true → all_digits (after f) ≡ true → 1 ≤ length (w ++ after f) → decimal_part false (w ++ fraction_text f) ≡ true
unfolding decimal_part
decimal [] no_point p q l = absurd (omega arith)
decimal [] (point s) p q l = ap (decimal_part false) (sym (append-nil s)) ∙ part_one false s [] l q
decimal (b ∷ w) no_point p q l = part_one false (b ∷ w) [] (omega arith) p
decimal (b ∷ w) (point s) p q l = part_one false (b ∷ w) (46 ∷ s) (omega arith) p ∙ part_end s q

-- ---- step 6: the point

whole_is : (w : List ℕ) (f : Fraction) → all_digits w ≡ true → before 46 (w ++ fraction_text f) ≡ w
unfolding before
whole_is w no_point p = before_free 46 w [] (digits_free w p) ∙ append-nil w
whole_is w (point s) p = before_free 46 w (46 ∷ s) (digits_free w p) ∙ append-nil w

fraction_is : (w : List ℕ) (f : Fraction) → all_digits w ≡ true → fraction (w ++ fraction_text f) ≡ after f
unfolding from
fraction_is w no_point p = ap (drop 1) (from_free 46 w [] (digits_free w p))
fraction_is w (point s) p = ap (drop 1) (from_free 46 w (46 ∷ s) (digits_free w p))

six : (text : List ℕ) (g : Bool) (w : List ℕ) (f : Fraction) (x : ℕ) → all_digits w ≡ true → step6 text g (w ++ fraction_text f) (x + length (after f)) ≡ step7 text g x (strip_zeros (w ++ after f))
unfolding step6
six text g w f x p =
    let l : length (after f) ≤ x + length (after f) = omega arith in
    let e : x + length (after f) - length (after f) ≡ x = omega arith in
    rw (fraction_is w f p, whole_is w f p, le-leb _ _ l, e)

-- ---- demand 3

length_parts : (w : List ℕ) (f : Fraction) → 1 ≤ length (w ++ after f) → 1 ≤ length (w ++ fraction_text f)
length_parts w no_point l = l
length_parts w (point s) l = simp length-append (omega arith)

pub reads : (t : FiniteText) (x : ℕ) → Grammatical t x → read_at (text_of t) ≡ step7 (text_of t) (negative t.sign) x (strip_zeros (digits_of t))
unfolding step4 step5
reads t x h =
    let d = digits_parts t.whole (after t.fraction) h.digits in
    let dec = t.whole ++ fraction_text t.fraction in
    let m : Mid dec = mid_append t.whole (fraction_text t.fraction) (mid_digits t.whole d.0) (mid_fraction t.fraction d.1) in
    let apart : text_of t ≡ sign_text t.sign ++ (dec ++ power_text t.power) =
    ap (λ (l : List ℕ). l ++ power_text t.power) (append_assoc (sign_text t.sign) t.whole (fraction_text t.fraction)) ∙ append_assoc (sign_text t.sign) dec (power_text t.power) in
    ap read_at apart
    ∙ start t.sign dec (power_text t.power) (length_parts t.whole t.fraction h.some) m
    ∙ rw (← apart)
    (split (text_of t) (negative t.sign) dec t.power (x + length (after t.fraction)) (mid_free dec m) h.written
    ∙ rw (decimal t.whole t.fraction d.0 d.1 h.some) (six (text_of t) (negative t.sign) t.whole t.fraction x d.0))

-- the value that is written decides
pub outcome : (t : FiniteText) (x : ℕ) → Grammatical t x → Outcome (negative t.sign) (whole_of t) x (read_text (text_of t))
outcome t x h =
    rw (ap (λ (a : Located). a.reading) (reads t x h))
    (rw strip_number at (seven (text_of t) (negative t.sign) x (strip_zeros (digits_of t)) (strip_digits (digits_of t) h.digits) (strip_leading (digits_of t))))

pub demand3 : Demand3
unfolding Outcome
demand3 t x h = outcome t x h

pub refused_only_by_value : RefusedOnlyByValue
unfolding Outcome
refused_only_by_value t x r h e =
    ⊎_elim
    (λ k. absurd (let f = k.1.is in let z : ◌≡◌ {A = ℕ} 0 1 = cc in omega arith))
    (λ k. ⊎_elim (λ f. inl (cc)) (λ f. inr (cc)) k.1)
    (outcome t x h)
