-- Every accepted text is a text of the grammar or a special word.
use mathlib.Core.Path.{◌≡◌, refl, sym, ap, ◌∙◌, subst}
use mathlib.Core.Logic.{◌⊎◌, inl, inr, ⊎_elim}
use mathlib.Core.Bool.{Bool, true, false, ◌&&◌, ◌||◌, true≢false}
use mathlib.Core.List.{List, [], ◌∷◌, ◌++◌, map, append-nil, append_assoc}
use Prim.Native.Nat.{ℕ, ◌+◌, ◌-◌, ◌≤◌}
use native.Mathlib.Omega.{arith}
use lib.Dec.{eqb, leb, ltb}
use lib.ListN.{length, take, drop, replicate, take-append-drop}
use borrow.Author.Tests.{eqb-true, leb-true, ltb-true, ne_eqb}
use Rattle.meaning.specs.Refusals.{Refusal}
use Rattle.meaning.specs.Decimal.{Decimal, InRange}
use Rattle.meaning.specs.Decimal.Decimal.{finite}
use Rattle.meaning.specs.Reading.{Reading, Located, Written, bytes, lower, is_digit, same, number, all_digits, all_zeros, holds, decimal_part, before, from, fraction, some_digits, origin, high, low, lost, exponent, upward, downward, strip_zeros, step2, step3, step4, step5, step6, step7, step8, step9, step10, step11, read_at, read_text}
use Rattle.meaning.specs.Reading.Reading.{refused, accepted}
use Rattle.meaning.specs.Reading.Written.{written, wrong}
use Rattle.meaning.specs.Grammar.{Sign, Fraction, Power, FiniteText, WrittenE, SignedE, Grammatical, Kept, Word, sign_text, negative, fraction_text, after, letter, power_text, text_of}
use Rattle.meaning.specs.Grammar.Sign.{none, plus, minus}
use Rattle.meaning.specs.Grammar.Fraction.{no_point, point}
use Rattle.meaning.specs.Grammar.Power.{no_power, power}
use Rattle.meaning.specs.Grammar.Word.{is_nan, is_snan, is_infinity, is_inf}
use Rattle.meaning.specs.Promises.{AcceptsOnlyTheGrammar, ReadsInRange}
use Rattle.meaning.proofs.Numbers.{by_test, both, both_of, neither, neither_of, byte_digit}
use Rattle.meaning.proofs.Stored.{Outcome, range}
use Rattle.meaning.proofs.Grammar.{outcome}

-- what is refused is not accepted
never : {P : Type 0} {r : Refusal} {v : Decimal} → refused r ≡ accepted v → P
never e = absurd (let z : ◌≡◌ {A = ℕ} 0 1 = cc in omega arith)

-- ---- an accepted run holds no point

holds-append : (b : ℕ) (s t : List ℕ) → holds b s ≡ false → holds b t ≡ false → holds b (s ++ t) ≡ false
unfolding holds
holds-append b [] t e f = f
holds-append b (x ∷ s) t e f =
    let h = neither_of (eqb x b) (holds b s) e in neither (eqb x b) (holds b (s ++ t)) h.0 (holds-append b s t h.1 f)

holds-left : (b : ℕ) (s t : List ℕ) → holds b (s ++ t) ≡ false → holds b s ≡ false
unfolding holds
holds-left b [] t e = refl
holds-left b (x ∷ s) t e =
    let h = neither_of (eqb x b) (holds b (s ++ t)) e in neither (eqb x b) (holds b s) h.0 (holds-left b s t h.1)

zeros_hold : (s : List ℕ) → all_zeros s ≡ true → holds 46 s ≡ false
unfolding holds all_zeros
zeros_hold [] e = refl
zeros_hold (x ∷ s) e =
    let h = both (eqb x 48) (all_zeros s) e in
    let q : eqb x 46 ≡ false = rw (eqb-true x 48 h.0) in
    neither (eqb x 46) (holds 46 s) q (zeros_hold s h.1)

-- the bytes from n on are zeros
cut_hold : (n : ℕ) (run : List ℕ) → all_zeros (drop n run) ≡ true → holds 46 (take n run) ≡ false → holds 46 run ≡ false
cut_hold n run z h = rw take-append-drop at (holds-append 46 (take n run) (drop n run) h (zeros_hold (drop n run) z))

module _ (text : List ℕ) (sign : Bool) (v : Decimal) where
  eleven : (x : ℕ) (run : List ℕ) → (step11 text sign x run).reading ≡ accepted v → holds 46 run ≡ false
  unfolding step11
  eleven x run e = by_test (holds 46 run) (λ t. never (rw t at e)) (λ t. t)

  ten : (x : ℕ) (run : List ℕ) → (step10 text sign x run).reading ≡ accepted v → holds 46 run ≡ false
  unfolding step10
  ten x run e =
      by_test (leb x high)
      (λ t. eleven x run (rw t at e))
      (λ t. by_test (leb (length run + (x - high)) 34)
      (λ u. holds-left 46 run (replicate (x - high) 48) (eleven high _ (rw (t, u) at e)))
      (λ u. never (rw (t, u) at e)))

  nine : (x : ℕ) (run : List ℕ) → (step9 text sign x run).reading ≡ accepted v → holds 46 run ≡ false
  unfolding step9
  nine x run e =
      by_test (leb low x)
      (λ t. ten x run (rw t at e))
      (λ t. by_test (leb (low - x) (length run))
      (λ u. by_test (all_zeros (lost (low - x) run))
      (λ w. cut_hold (length run - (low - x)) run w (ten low _ (rw (t, u, w) at e)))
      (λ w. never (rw (t, u, w) at e)))
      (λ u. never (rw (t, u) at e)))

  eight : (x : ℕ) (run : List ℕ) → (step8 text sign x run).reading ≡ accepted v → holds 46 run ≡ false
  unfolding step8
  eight x run e =
      by_test (leb (length run) 34)
      (λ t. nine x run (rw t at e))
      (λ t. by_test (all_zeros (drop 34 run))
      (λ u. cut_hold 34 run u (nine _ _ (rw (t, u) at e)))
      (λ u. never (rw (t, u) at e)))

  seven : (x : ℕ) (run : List ℕ) → (step7 text sign x run).reading ≡ accepted v → holds 46 run ≡ false
  unfolding step7 holds
  seven x [] e = refl
  seven x (b ∷ s) e = eight x (b ∷ s) e

strip_hold : (s : List ℕ) → holds 46 (strip_zeros s) ≡ false → holds 46 s ≡ false
unfolding strip_zeros holds
strip_hold [] e = refl
strip_hold (b ∷ s) e =
    by_test (eqb b 48)
    (λ t.
    let q : eqb b 46 ≡ false = rw (eqb-true b 48 t) in
    neither (eqb b 46) (holds 46 s) q (strip_hold s (rw t at e)))
    (λ t. rw t at e)

-- ---- the decimal part

-- only digits and points, and no point: only digits
digits_only : (seen : Bool) (s : List ℕ) → decimal_part seen s ≡ true → holds 46 s ≡ false → all_digits s ≡ true
unfolding decimal_part holds all_digits
digits_only seen [] d h = refl
digits_only seen (b ∷ s) d h =
    let n = neither_of (eqb b 46) (holds 46 s) h in
    by_test (is_digit b)
    (λ t. both_of (is_digit b) (all_digits s) t (digits_only true s (rw t at d) n.1))
    (λ t. absurd (true≢false (sym (rw (t, n.0) at d))))

-- the parts of a decimal part with at most one point; seen: there was a digit before
record Parts (seen : Bool) (dec : List ℕ) : Type 0 where
  whole : List ℕ
  frac : Fraction
  is : dec ≡ whole ++ fraction_text frac
  same-fraction : fraction dec ≡ after frac
  digits : all_digits (whole ++ after frac) ≡ true
  some : (seen ≡ true) ⊎ (1 ≤ length (whole ++ after frac))

-- after the point
point_parts : (seen : Bool) (s : List ℕ) → decimal_part seen s ≡ true → holds 46 s ≡ false → Parts seen (46 ∷ s)
point_parts seen s d h =
    record { whole = []; frac = point s; is = refl; same-fraction = unfold from in refl; digits = digits_only seen s d h; some = some seen s d }
  where
    some : (seen : Bool) (s : List ℕ) → decimal_part seen s ≡ true → (seen ≡ true) ⊎ (1 ≤ length s)
    some seen [] d = inl (unfold decimal_part in d)
    some seen (b ∷ s) d = inr (omega arith)

-- one digit more before them
digit_parts : (seen : Bool) (b : ℕ) (s : List ℕ) → is_digit b ≡ true → eqb b 46 ≡ false → Parts true s → Parts seen (b ∷ s)
unfolding from all_digits
digit_parts seen b s t n r =
    record {
      whole = b ∷ r.whole;
      frac = r.frac;
      is = ap (λ (l : List ℕ). b ∷ l) r.is;
      same-fraction = rw n r.same-fraction;
      digits = both_of (is_digit b) (all_digits (r.whole ++ after r.frac)) t r.digits;
      some = inr (omega arith);
    }

parts : (seen : Bool) (dec : List ℕ) → decimal_part seen dec ≡ true → holds 46 (before 46 dec ++ fraction dec) ≡ false → Parts seen dec
unfolding decimal_part before from holds all_digits
parts seen [] d h =
    record { whole = []; frac = no_point; is = refl; same-fraction = refl; digits = refl; some = inl d }
parts seen (b ∷ s) d h =
    by_test (is_digit b)
    (λ t.
    let g = byte_digit b t in
    let n : eqb b 46 ≡ false = ne_eqb b 46 (λ e. omega arith) in
    digit_parts seen b s t n (parts true s (rw t at d) (neither_of (eqb b 46) (holds 46 (before 46 s ++ fraction s)) (rw n at h)).1))
    (λ t. by_test (eqb b 46)
    (λ u.
    let e : 46 ≡ b = sym (eqb-true b 46 u) in
    subst (λ (c : ℕ). Parts seen (c ∷ s)) e (point_parts seen s (rw (t, u) at d) (rw u at h)))
    (λ u. absurd (true≢false (sym (rw (t, u) at d)))))

-- ---- the exponent part

some_digits_lem : (s : List ℕ) → some_digits s ≡ true → (1 ≤ length s) × (all_digits s ≡ true)
unfolding some_digits
some_digits_lem [] e = absurd (true≢false (sym e))
some_digits_lem (b ∷ s) e = (omega arith, e)

-- wrong is not written
not_wrong : {P : Type 0} {e : ℕ} → wrong ≡ written e → P
not_wrong f = absurd (let z : ◌≡◌ {A = ℕ} 0 1 = cc in omega arith)

upward_parts : (big : Bool) (g : Sign) (s : List ℕ) (e : ℕ) → negative g ≡ false → upward s ≡ written e → WrittenE (power big g s) e
upward_parts big g s e n w =
    by_test (some_digits s && ltb (number 0 s) origin)
    (λ t.
    let b = both (some_digits s) (ltb (number 0 s) origin) t in
    let d = some_digits_lem s b.0 in
    let f : written (origin + number 0 s) ≡ written e = rw t at w in
    let q : SignedE false (number 0 s) e = (cc, ltb-true _ _ b.1) in
    (d.0, d.1, rw n q))
    (λ t. not_wrong (rw t at w))

downward_parts : (big : Bool) (s : List ℕ) (e : ℕ) → downward s ≡ written e → WrittenE (power big minus s) e
downward_parts big s e w =
    by_test (some_digits s && leb (number 0 s) origin)
    (λ t.
    let b = both (some_digits s) (leb (number 0 s) origin) t in
    let d = some_digits_lem s b.0 in
    let f : written (origin - number 0 s) ≡ written e = rw t at w in
    let q : origin - number 0 s ≡ e = cc in
    (d.0, d.1, omega (arith, leb-true (number 0 s) origin b.1)))
    (λ t. not_wrong (rw t at w))

-- the sign and the digits of a written exponent
exponent_parts : (big : Bool) (t : List ℕ) (e : ℕ) → exponent t ≡ written e → (g : Sign) × (ds : List ℕ) × (t ≡ sign_text g ++ ds) × WrittenE (power big g ds) e
unfolding exponent
exponent_parts big [] e w = not_wrong w
exponent_parts big (b ∷ s) e w =
    by_test (eqb b 45)
    (λ t. (minus, s, ap (λ (c : ℕ). c ∷ s) (eqb-true b 45 t), downward_parts big s e (rw t at w)))
    (λ t. by_test (eqb b 43)
    (λ u. (plus, s, ap (λ (c : ℕ). c ∷ s) (eqb-true b 43 u), upward_parts big plus s e refl (rw (t, u) at w)))
    (λ u. (none, b ∷ s, refl, upward_parts big none (b ∷ s) e refl (rw (t, u) at w))))

-- ---- letters in either case

-- no capital letter becomes a digit, a point or a sign
pub lower-low : (b : ℕ) → lower b ≤ 57 → lower b ≡ b
lower-low b h =
    by_test (leb 65 b && leb b 90)
    (λ t. absurd (let p : b + 32 ≤ 57 = rw t at h in omega (arith, leb-true 65 b (both (leb 65 b) (leb b 90) t).0)))
    (λ t. rw t)

-- the byte is `e` or `E`
lower_e : (b : ℕ) → lower b ≡ 101 → (big : Bool) × (b ≡ letter big)
lower_e b e =
    by_test (leb 65 b && leb b 90)
    (λ t. let p : b + 32 ≡ 101 = rw t at e in (true, omega arith))
    (λ t. let p : b ≡ 101 = rw t at e in (false, p))

-- bytes that no letter becomes
abbrev Low : List ℕ → Type 0
Low [] = Unit {0}
Low (b ∷ s) = (b ≤ 57) × Low s

low-lower : (s : List ℕ) → Low (map lower s) → map lower s ≡ s
low-lower [] h = refl
low-lower (b ∷ s) h = rw (lower-low b h.0, low-lower s h.1)

low_digits : (s : List ℕ) → all_digits s ≡ true → Low s
unfolding all_digits
low_digits [] d = tt
low_digits (b ∷ s) d =
    let h = both (is_digit b) (all_digits s) d in ((byte_digit b h.0).1, low_digits s h.1)

low_signed : (g : Sign) (s : List ℕ) → all_digits s ≡ true → Low (sign_text g ++ s)
low_signed none s d = low_digits s d
low_signed plus s d = (omega arith, low_digits s d)
low_signed minus s d = (omega arith, low_digits s d)

low-decimal : (seen : Bool) (s : List ℕ) → decimal_part seen s ≡ true → Low s
unfolding decimal_part
low-decimal seen [] d = tt
low-decimal seen (b ∷ s) d =
    by_test (is_digit b)
    (λ t. ((byte_digit b t).1, low-decimal true s (rw t at d)))
    (λ t. by_test (eqb b 46)
    (λ u. (omega (arith, eqb-true b 46 u), low-decimal seen s (rw (t, u) at d)))
    (λ u. absurd (true≢false (sym (rw (t, u) at d)))))

-- a text in lower case comes apart as the text does
parted_lower : (w a b : List ℕ) → map lower w ≡ a ++ b → (x : List ℕ) × (y : List ℕ) × (w ≡ x ++ y) × (map lower x ≡ a) × (map lower y ≡ b)
parted_lower w [] b e = ([], w, refl, refl, e)
parted_lower [] (c ∷ a) b e = absurd (let z : ◌≡◌ {A = ℕ} 0 1 = cc in omega arith)
parted_lower (d ∷ w) (c ∷ a) b e =
    let r = parted_lower w a b (cc) in
    (d ∷ r.0, r.1, ap (λ (l : List ℕ). d ∷ l) r.2, (let h : lower d ≡ c = cc in rw (h, r.3)), r.4)

-- ---- step 3

pub parted : (c : ℕ) (t : List ℕ) → t ≡ before c t ++ from c t
unfolding before from
parted c [] = refl
parted c (x ∷ t) = by_test (eqb x c) (λ e. rw e) (λ e. rw e (ap (λ (l : List ℕ). x ∷ l) (parted c t)))

from-head : (c : ℕ) (t : List ℕ) {e : ℕ} {r : List ℕ} → from c t ≡ e ∷ r → e ≡ c
unfolding from
from-head c [] f = absurd (let z : ◌≡◌ {A = ℕ} 0 1 = cc in omega arith)
from-head c (x ∷ t) {e} {r} f =
    by_test (eqb x c)
    (λ u. let g : x ∷ t ≡ e ∷ r = rw u at f in let h : x ≡ e = cc in sym h ∙ eqb-true x c u)
    (λ u. from-head c t (rw u at f))

-- what is known of the decimal part and the exponent of an accepted text
record Passed (dec : List ℕ) (w : Written) : Type 0 where
  decimal : decimal_part false dec ≡ true
  e : ℕ
  is : w ≡ written e
  room : length (fraction dec) ≤ e
  one_point : holds 46 (before 46 dec ++ fraction dec) ≡ false

passed_six : (text : List ℕ) (sign : Bool) (dec : List ℕ) (w : Written) (v : Decimal) → decimal_part false dec ≡ true → (step5 text sign dec w).reading ≡ accepted v → Passed dec w
unfolding step5 step6
passed_six text sign dec wrong v d f = never f
passed_six text sign dec (written e) v d f =
    by_test (leb (length (fraction dec)) e)
    (λ t. record { decimal = d; e = e; is = refl; room = leb-true _ _ t; one_point = strip_hold _ (seven text sign v _ _ (rw t at f)) })
    (λ t. never (rw t at f))

passed : (text : List ℕ) (sign : Bool) (dec : List ℕ) (w : Written) (v : Decimal) → (step4 text sign dec w).reading ≡ accepted v → Passed dec w
unfolding step4
passed text sign dec w v f =
    by_test (decimal_part false dec) (λ t. passed_six text sign dec w v t (rw t at f)) (λ t. never (rw t at f))

-- an accepted finite text as its parts
abbrev Found : Sign → List ℕ → Type 0
Found g w = (t : FiniteText) × (x : ℕ) × (sign_text g ++ w ≡ text_of t) × Grammatical t x

assemble : (g : Sign) (dec tail : List ℕ) (pow : Power) (e : ℕ) → Parts false dec → length (fraction dec) ≤ e → tail ≡ power_text pow → WrittenE pow e → Found g (dec ++ tail)
assemble g dec tail pow e p l f w =
    let x = e - length (after p.frac) in
    let q : e ≡ x + length (after p.frac) = omega (arith, ap length p.same-fraction) in (
      record { sign = g; whole = p.whole; fraction = p.frac; power = pow },
      x,
      rw (p.is, f) (simp append_assoc),
      record {
        digits = p.digits;
        some = ⊎_elim (λ z. absurd (true≢false (sym z))) (λ z. z) p.some;
        written = rw q at w;
      },
    )

-- an exponent part as its parts
power_parts : (y t : List ℕ) (e : ℕ) → map lower y ≡ 101 ∷ t → exponent t ≡ written e → (w : Power) × (y ≡ power_text w) × WrittenE w e
power_parts [] t e m f = absurd (let z : ◌≡◌ {A = ℕ} 0 1 = cc in omega arith)
power_parts (c ∷ y) t e m f =
    let l = lower_e c (cc) in
    let p = exponent_parts l.0 t e f in
    let q : map lower y ≡ sign_text p.0 ++ p.1 = (let r : map lower y ≡ t = cc in r ∙ p.2) in
    let u : y ≡ sign_text p.0 ++ p.1 =
    sym (low-lower y (subst (λ (j : List ℕ). Low j) (sym q) (low_signed p.0 p.1 p.3.1))) ∙ q in
    (power l.0 p.0 p.1, ap (λ (b : ℕ). b ∷ y) l.1 ∙ ap (λ (j : List ℕ). letter l.0 ∷ j) u, p.3)

-- a decimal part is written as it is read
same_case : (x dec : List ℕ) → map lower x ≡ dec → decimal_part false dec ≡ true → dec ≡ x
same_case x dec e d = sym e ∙ low-lower x (rw e (low-decimal false dec d))

three : (text : List ℕ) (g : Sign) (w dec tail : List ℕ) (v : Decimal) → map lower w ≡ dec ++ tail → ((e : ℕ) (r : List ℕ) → tail ≡ e ∷ r → e ≡ 101) → (step3 text (negative g) dec tail).reading ≡ accepted v → Found g w
unfolding step3
three text g w dec [] v m h f =
    let k = passed text (negative g) dec (written origin) v f in
    let q : dec ≡ w = same_case w dec (m ∙ append-nil dec) k.decimal in
    let o : origin ≡ k.e = (let z = k.is in cc) in
    subst (λ (l : List ℕ). Found g l) (append-nil dec ∙ q)
    (assemble g dec [] no_power k.e (parts false dec k.decimal k.one_point) k.room refl (sym o))
three text g w dec (e ∷ []) v m h f = never f
three text g w dec (e ∷ b ∷ s) v m h f =
    let k = passed text (negative g) dec (exponent (b ∷ s)) v f in
    let r = parted_lower w dec (e ∷ b ∷ s) m in
    let q : dec ≡ r.0 = same_case r.0 dec r.3 k.decimal in
    let p = power_parts r.1 (b ∷ s) k.e (r.4 ∙ ap (λ (c : ℕ). c ∷ b ∷ s) (h e (b ∷ s) refl)) k.is in
    subst (λ (j : List ℕ). Found g j) (ap (λ (j : List ℕ). j ++ r.1) q ∙ sym r.2)
    (assemble g dec r.1 p.0 k.e (parts false dec k.decimal k.one_point) k.room p.1 p.2)

-- ---- steps 1 and 2

same_is : (s t : List ℕ) → same s t ≡ true → s ≡ t
unfolding same
same_is [] [] e = refl
same_is [] (y ∷ t) e = absurd (true≢false (sym e))
same_is (x ∷ s) [] e = absurd (true≢false (sym e))
same_is (x ∷ s) (y ∷ t) e =
    let h = both (eqb x y) (same s t) e in rw (eqb-true x y h.0, same_is s t h.1)

-- the sign, and what stands after it
signed_off : (s : List ℕ) → (g : Sign) × (w : List ℕ) × (s ≡ sign_text g ++ w) × (read_at s ≡ step2 s (negative g) (map lower w))
unfolding read_at
signed_off [] = (none, [], refl, refl)
signed_off (b ∷ s) =
    by_test (eqb b 45)
    (λ t. (minus, s, ap (λ (c : ℕ). c ∷ s) (eqb-true b 45 t), rw t))
    (λ t. by_test (eqb b 43)
    (λ u. (plus, s, ap (λ (c : ℕ). c ∷ s) (eqb-true b 43 u), rw (t, u)))
    (λ u. (none, b ∷ s, refl, rw (t, u))))

either_of : (a b : Bool) → (a || b) ≡ true → (a ≡ true) ⊎ (b ≡ true)
either_of true b e = inl refl
either_of false b e = inr e

-- the same value, since both were accepted
word_of : {w : List ℕ} {sign : Bool} {a v : Decimal} → Word w sign a → accepted a ≡ accepted v → Word w sign v
word_of {w} {sign} {a} {v} k e = subst (λ (d : Decimal). Word w sign d) (let f : a ≡ v = cc in f) k

two : (text : List ℕ) (g : Sign) (w : List ℕ) (v : Decimal) → (step2 text (negative g) (map lower w)).reading ≡ accepted v → Found g w ⊎ Word w (negative g) v
unfolding step2
two text g w v e =
    let t = map lower w in
    by_test (same t (bytes "nan"))
    (λ a. inr (word_of (is_nan (same_is t _ a)) (rw a at e)))
    (λ a. by_test (same t (bytes "snan"))
    (λ b. inr (word_of (is_snan (same_is t _ b)) (rw (a, b) at e)))
    (λ b. by_test (same t (bytes "infinity") || same t (bytes "inf"))
    (λ c. ⊎_elim
    (λ d. inr (word_of (is_infinity (same_is t _ d)) (rw (a, b, c) at e)))
    (λ d. inr (word_of (is_inf (same_is t _ d)) (rw (a, b, c) at e)))
    (either_of (same t (bytes "infinity")) (same t (bytes "inf")) c))
    (λ c. inl (three text g w (before 101 t) (from 101 t) v (parted 101 t) (λ x r f. from-head 101 t f) (rw (a, b, c) at e)))))

pub accepts_only_the_grammar : AcceptsOnlyTheGrammar
accepts_only_the_grammar s v e =
    let r = signed_off s in
    ⊎_elim
    (λ f. inl (f.0, f.1, r.2 ∙ f.2, f.3))
    (λ k. inr (r.0, r.1, r.2, k))
    (two s r.0 r.1 v (ap (λ (a : Located). a.reading) (sym r.3) ∙ e))

-- ---- what is accepted is in range

word_in_range : {w : List ℕ} {sign : Bool} {v : Decimal} → Word w sign v → InRange v
word_in_range (is_nan e) = tt
word_in_range (is_snan e) = tt
word_in_range (is_infinity e) = tt
word_in_range (is_inf e) = tt

kept-in_range : (sign : Bool) (a x : ℕ) (r : Reading) (v : Decimal) → Kept sign a x r → r ≡ accepted v → InRange v
kept-in_range sign a x r v k e =
    let f : finite sign k.field k.coefficient ≡ v = (let g = k.is in cc) in
    subst (λ (d : Decimal). InRange d) f (omega (arith, k.stores.below, range), k.stores.small)

pub reads_in_range : ReadsInRange
unfolding Outcome
reads_in_range s v e =
    ⊎_elim
    (λ f. ⊎_elim
    (λ k. kept-in_range _ _ _ _ v k.1 (ap read_text (sym f.2) ∙ e))
    (λ k. ⊎_elim (λ r. never (sym r ∙ ap read_text (sym f.2) ∙ e)) (λ r. never (sym r ∙ ap read_text (sym f.2) ∙ e)) k.1)
    (outcome f.0 f.1 f.3))
    (λ f. word_in_range f.3)
    (accepts_only_the_grammar s v e)
