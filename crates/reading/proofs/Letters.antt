-- The letters of a text: the special words of step 2, and the first `e` of step 3.
use mathlib.Core.Path.{◌≡◌, refl, sym, ap, ◌∙◌}
use Rattle.std.specs.Prelude.{IsTrue, ◌↔◌, Some, None, position}
use Rattle.std.specs.List.{position_or_len}
use Rattle.std.specs.Char.{to_ascii_lowercase}
use mathlib.Core.Logic.{⊎_elim}
use mathlib.Core.Bool.{Bool, true, false, ◌||◌, cond, true≢false}
use mathlib.Core.List.{List, [], ◌∷◌, map}
use Prim.Native.Nat.{ℕ, ◌+◌, ◌≤◌, ◌<◌}
use native.Mathlib.Omega.{arith}
use lib.Dec.{eqb, ltb}
use lib.ListN.{length, get_or, drop, length-map}
use borrow.Author.Tests.{eq-eqb, ne_eqb, eqb-true, ltb-true, ltb-false, le-leb, lt-leb, le-ltb, lt-ltb}
use Rattle.meaning.specs.Reading.{refused_at, accepted_as, lower, bytes, same, before, from, decimal_part, step2, step3, step4, wrong_byte, sign_length, plain_bytes, read_at}
use Rattle.meaning.specs.Refusals.Refusal.{unparseable}
use Rattle.meaning.specs.Decimal.Decimal.{nan, infinity}
use Rattle.meaning.proofs.Numbers.{both, le_or}
use Rattle.reading.specs.Scan.{is_plain, is_e, decimals}
use Rattle.reading.specs.Split.{start_of}
use Rattle.reading.proofs.Bytes.{plain-below, decimals_none}
use Rattle.reading.proofs.Lower.{plain-lower}
use Rattle.std.proofs.lemmas.Bool.{cases_Bool}

-- ---- words

pub lower_is : (b : ℕ) → to_ascii_lowercase b ≡ lower b
lower_is b =
    ⊎_elim
    (λ (h : b ≤ 64). rw (lt-ltb b 65 (omega arith), lt-leb 65 b (omega arith)))
    (λ (h : 64 < b).
    ⊎_elim
    (λ (k : b ≤ 90). rw (le-ltb b 65 (omega arith), lt-ltb b 91 (omega arith), le-leb 65 b (omega arith), le-leb b 90 k))
    (λ (k : 90 < b). rw (le-ltb b 65 (omega arith), le-ltb b 91 (omega arith), le-leb 65 b (omega arith), lt-leb b 90 k))
    (le_or b 90))
    (le_or b 64)

lowers_are : (s : List ℕ) → map to_ascii_lowercase s ≡ map lower s
lowers_are [] = refl
lowers_are (b ∷ s) = rw (lower_is b, lowers_are s)

same_refl : (s : List ℕ) → same s s ≡ true
unfolding same
same_refl [] = refl
same_refl (b ∷ s) = rw (eq-eqb b b refl, same_refl s)

same_true : (s t : List ℕ) → same s t ≡ true → s ≡ t
unfolding same
same_true [] [] e = refl
same_true [] (y ∷ t) e = absurd (true≢false (sym e))
same_true (x ∷ s) [] e = absurd (true≢false (sym e))
same_true (x ∷ s) (y ∷ t) e =
    let h = both (eqb x y) (same s t) e in
    let p = eqb-true x y h.0 in
    let q = same_true s t h.1 in
    cc

-- what a comparison in either case tells of a word in lower case
pub word_is : (r : Bool) (s w : List ℕ) → (IsTrue r ↔ (map to_ascii_lowercase s ≡ map to_ascii_lowercase w)) → map lower w ≡ w → r ≡ same (map lower s) w
word_is true s w h e =
    let q : map lower s ≡ w = sym (lowers_are s) ∙ h.0 refl ∙ lowers_are w ∙ e in sym (rw q (same_refl w))
word_is false s w h e =
    ⊎_elim
    (λ t. absurd (true≢false (sym (h.1 (lowers_are s ∙ same_true _ _ t ∙ sym e ∙ sym (lowers_are w))))))
    (λ f. sym f)
    (cases_Bool (same (map lower s) w))

-- ---- the first `e`

pub is_e-lower : (b : ℕ) → is_e b ≡ eqb (lower b) 101
is_e-lower b = rw lower_is

-- where it stands, and what is left from there on
from_length : (s : List ℕ) → length (from 101 (map lower s)) + position_or_len is_e s ≡ length s
unfolding from
from_length [] = refl
from_length (b ∷ s) =
    ⊎_elim
    (λ (e : is_e b ≡ true). rw (← is_e-lower b, e) (omega (arith, length-map s lower)))
    (λ (e : is_e b ≡ false). rw (← is_e-lower b, e) (omega (arith, from_length s)))
    (cases_Bool (is_e b))

pub e_found : (s : List ℕ) (i : ℕ) → Some i ≡ position is_e s → (i < length s) × (length (from 101 (map lower s)) + i ≡ length s)
e_found s i e =
    ⊎_elim
    (λ t. let p : i ≡ position_or_len is_e s = (let q = rw t at e in cc) in
    let l = ltb-true _ _ t in (rw p l, rw p (from_length s)))
    (λ f. absurd (let q = rw f at e in cc))
    (cases_Bool (ltb (position_or_len is_e s) (length s)))

pub e_missing : (s : List ℕ) → None ≡ position is_e s → length (from 101 (map lower s)) ≡ 0
e_missing s e =
    ⊎_elim
    (λ t. absurd (let q = rw t at e in cc))
    (λ f. let l = ltb-false _ _ f in omega (arith, from_length s))
    (cases_Bool (ltb (position_or_len is_e s) (length s)))

-- ---- step 2

module _ (text : List ℕ) (g : Bool) (t : List ℕ) where
  pub nan_is : same t (110 ∷ 97 ∷ 110 ∷ []) ≡ true → step2 text g t ≡ accepted_as (nan g false)
  unfolding step2 bytes
  nan_is e = rw e

  module _ (a : same t (110 ∷ 97 ∷ 110 ∷ []) ≡ false) where
    pub snan-is : same t (115 ∷ 110 ∷ 97 ∷ 110 ∷ []) ≡ true → step2 text g t ≡ accepted_as (nan g true)
    unfolding step2 bytes
    snan-is e = rw (a, e)

    module _ (b : same t (115 ∷ 110 ∷ 97 ∷ 110 ∷ []) ≡ false) where
      pub infinity-is : same t (105 ∷ 110 ∷ 102 ∷ 105 ∷ 110 ∷ 105 ∷ 116 ∷ 121 ∷ []) ≡ true → step2 text g t ≡ accepted_as (infinity g)
      unfolding step2 bytes
      infinity-is e = rw (a, b, e)

      pub inf-is : same t (105 ∷ 110 ∷ 102 ∷ 105 ∷ 110 ∷ 105 ∷ 116 ∷ 121 ∷ []) ≡ false → same t (105 ∷ 110 ∷ 102 ∷ []) ≡ true → step2 text g t ≡ accepted_as (infinity g)
      unfolding step2 bytes
      inf-is e f = rw (a, b, e, f)

      pub number_is : same t (105 ∷ 110 ∷ 102 ∷ 105 ∷ 110 ∷ 105 ∷ 116 ∷ 121 ∷ []) ≡ false → same t (105 ∷ 110 ∷ 102 ∷ []) ≡ false → step2 text g t ≡ step3 text g (before 101 t) (from 101 t)
      unfolding step2 bytes
      number_is e f = rw (a, b, e, f)

-- a text that begins with a digit or a point is no word
other_word : (x y : ℕ) (s t : List ℕ) → x < y → same (x ∷ s) (y ∷ t) ≡ false
unfolding same
other_word x y s t h = rw (ne_eqb x y (λ e. omega arith))

pub no_word : (text : List ℕ) (g : Bool) (l : List ℕ) → (length (decimals l) ≡ 0 → ⊥) → step2 text g (map lower l) ≡ step3 text g (before 101 (map lower l)) (from 101 (map lower l))
no_word text g [] n = unfold decimals in absurd (n refl)
no_word text g (x ∷ l) n =
    ⊎_elim
    (λ e.
    let b = plain-below x e in
    rw (plain-lower x e)
    (number_is text g (x ∷ map lower l) (other_word x 110 _ _ (omega arith)) (other_word x 115 _ _ (omega arith)) (other_word x 105 _ _ (omega arith)) (other_word x 105 _ _ (omega arith))))
    (λ e. absurd (n (ap length (decimals_none x l e))))
    (cases_Bool (is_plain x))

-- ---- step 1

pub read_empty : (s : List ℕ) → length s ≡ 0 → read_at s ≡ refused_at unparseable 0
unfolding read_at wrong_byte sign_length plain_bytes step2 step3 step4 decimal_part before from same bytes
read_empty [] e = refl
read_empty (x ∷ s) e = absurd (omega arith)

signed : (s : List ℕ) → 0 < length s → read_at s ≡ step2 s (eqb (get_or s 0 0) 45) (map lower (drop (start_of (get_or s 0 0)) s))
unfolding read_at
signed [] h = absurd (omega arith)
signed (b ∷ s) h = go (eqb b 45) (eqb b 43)
  where
    go : (t u : Bool) → cond t (step2 (b ∷ s) true (map lower s)) (cond u (step2 (b ∷ s) false (map lower s)) (step2 (b ∷ s) false (map lower (b ∷ s)))) ≡ step2 (b ∷ s) t (map lower (drop (cond (t || u) 1 0) (b ∷ s)))
    go true u = refl
    go false true = refl
    go false false = refl

module _ (s : List ℕ) (h : 0 < length s) (r : ℕ) (e : r ≡ start_of (get_or s 0 0)) where
  pub read_start : read_at s ≡ step2 s (eqb (get_or s 0 0) 45) (map lower (drop r s))
  read_start = signed s h ∙ rw e
