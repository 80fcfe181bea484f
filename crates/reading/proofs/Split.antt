-- From the pass over the decimal part to the steps: the split at the first `e`, the decimal part, the first point.
use mathlib.Core.Path.{◌≡◌, refl, sym, ap, ◌∙◌}
use mathlib.Core.Logic.{⊎_elim}
use mathlib.Core.Bool.{Bool, true, false, cond}
use mathlib.Core.List.{List, [], ◌∷◌, ◌++◌, map}
use Prim.Native.Nat.{ℕ, suc, ◌+◌, ◌-◌, ◌≤◌, ◌<◌}
use native.Mathlib.Omega.{arith}
use lib.Dec.{eqb}
use lib.ListN.{length, take, drop}
use lib.Seq.{slice}
use borrow.Author.Tests.{eq-eqb, ne_eqb}
use Rattle.meaning.specs.Reading.{refused_at, is_digit, lower, before, from, fraction, decimal_part, the_e, wrong_byte, step3, step4}
use Rattle.meaning.proofs.Numbers.{both, eq_or, neither_of}
use Rattle.reading.specs.Scan.{is_plain, all_plain, decimals, first_at, points}
use Rattle.reading.specs.Split.{wrong_for}
use Rattle.reading.specs.Told.{named}
use Rattle.reading.specs.Run.{without}
use Rattle.reading.proofs.Lower.{plain-lower, lower-plain}
use Rattle.reading.proofs.Bytes.{cond_same, take-drop, digit_no_point, plain_or, plain-below, decimals_more, decimals_none, points_more, points-same, first_here, first_later, without_skip, without-take}
use Rattle.std.proofs.lemmas.Bool.{cases_Bool}

-- ---- the split at the first `e`

-- what stands before it, and what from it on, of a text that begins with a byte of a decimal part
module _ (x : ℕ) (l : List ℕ) (e : is_plain x ≡ true) where
  no_letter : x ≡ 101 → ⊥
  no_letter q = omega (arith, plain-below x e)

  pub before-plain : before 101 (map lower (x ∷ l)) ≡ x ∷ before 101 (map lower l)
  unfolding before
  before-plain = rw (plain-lower x e, ne_eqb x 101 no_letter)

  from-plain : from 101 (map lower (x ∷ l)) ≡ from 101 (map lower l)
  unfolding from
  from-plain = rw (plain-lower x e, ne_eqb x 101 no_letter)

pub before_split : (l : List ℕ) → before 101 (map lower l) ≡ decimals l ++ before 101 (map lower (drop (length (decimals l)) l))
before_split [] = unfold decimals before in refl
before_split (x ∷ l) =
    ⊎_elim
    (λ e. rw (decimals_more x l e) (before-plain x l e ∙ ap (λ (k : List ℕ). x ∷ k) (before_split l)))
    (λ e. rw (decimals_none x l e))
    (cases_Bool (is_plain x))

pub from_split : (l : List ℕ) → from 101 (map lower l) ≡ from 101 (map lower (drop (length (decimals l)) l))
from_split [] = unfold decimals from in refl
from_split (x ∷ l) =
    ⊎_elim
    (λ e. rw (decimals_more x l e) (from-plain x l e ∙ from_split l))
    (λ e. rw (decimals_none x l e))
    (cases_Bool (is_plain x))

-- ---- the decimal part

pub decimals_all : (l : List ℕ) → all_plain (decimals l) ≡ true
unfolding all_plain
decimals_all [] = unfold decimals in refl
decimals_all (x ∷ l) =
    ⊎_elim (λ e. rw (decimals_more x l e, e, decimals_all l)) (λ e. rw (decimals_none x l e)) (cases_Bool (is_plain x))

-- a byte that is neither digit nor point, at the start or later
decimal_wrong : (seen : Bool) (a : List ℕ) (y : ℕ) (z : List ℕ) → is_plain y ≡ false → decimal_part seen (a ++ (y ∷ z)) ≡ false
unfolding decimal_part
decimal_wrong seen [] y z e = let n = neither_of (is_digit y) (eqb y 46) e in rw (n.0, n.1)
decimal_wrong seen (x ∷ a) y z e =
    rw (decimal_wrong true a y z e, decimal_wrong seen a y z e, cond_same, cond_same)

pub points_few : (l : List ℕ) → points l ≤ length l
points_few [] = unfold points in omega arith
points_few (x ∷ l) = ⊎_elim (λ e. rw (points_more x l e) (omega (arith, points_few l))) (λ e. rw (points-same x l e) (omega (arith, points_few l))) (eq_or x 46)

module _ (x : ℕ) (l : List ℕ) (p : all_plain (x ∷ l) ≡ true) where
  plain_first : is_plain x ≡ true
  unfolding all_plain
  plain_first = (both (is_plain x) (all_plain l) p).0

  plain_rest : all_plain l ≡ true
  unfolding all_plain
  plain_rest = (both (is_plain x) (all_plain l) p).1

  decimal_point : (seen : Bool) → x ≡ 46 → decimal_part seen (x ∷ l) ≡ decimal_part seen l
  unfolding decimal_part
  decimal_point seen e = rw e

decimal_digit : (seen : Bool) (x : ℕ) (l : List ℕ) → is_digit x ≡ true → decimal_part seen (x ∷ l) ≡ decimal_part true l
unfolding decimal_part
decimal_digit seen x l e = rw e

-- only points
pub decimal-points : (l : List ℕ) → all_plain l ≡ true → points l ≡ length l → decimal_part false l ≡ false
decimal-points [] p e = unfold decimal_part in refl
decimal-points (x ∷ l) p e =
    ⊎_elim
    (λ d. absurd (omega (arith, points_few l, sym (points-same x l (digit_no_point x d)) ∙ e)))
    (λ q. decimal_point x l p false q ∙ decimal-points l (plain_rest x l p) (let k = sym (points_more x l q) ∙ e in omega arith))
    (plain_or x (plain_first x l p))

decimal_seen : (l : List ℕ) → all_plain l ≡ true → decimal_part true l ≡ true
decimal_seen [] p = unfold decimal_part in refl
decimal_seen (x ∷ l) p =
    ⊎_elim
    (λ d. decimal_digit true x l d ∙ decimal_seen l (plain_rest x l p))
    (λ q. decimal_point x l p true q ∙ decimal_seen l (plain_rest x l p))
    (plain_or x (plain_first x l p))

-- a digit among them
pub decimal_right : (l : List ℕ) → all_plain l ≡ true → (points l ≡ length l → ⊥) → decimal_part false l ≡ true
decimal_right [] p e = unfold points in absurd (e refl)
decimal_right (x ∷ l) p e =
    ⊎_elim
    (λ d. decimal_digit false x l d ∙ decimal_seen l (plain_rest x l p))
    (λ q. decimal_point x l p false q ∙ decimal_right l (plain_rest x l p) (λ k. e (points_more x l q ∙ omega arith)))
    (plain_or x (plain_first x l p))

-- ---- step 3

pub step3_wrong : (text : List ℕ) (g : Bool) (dec t : List ℕ) → decimal_part false dec ≡ false → step3 text g dec t ≡ refused_at (named (wrong_for t)) (cond (eqb (length t) 1) (the_e text) (wrong_byte text))
unfolding step3 step4
step3_wrong text g dec [] e = rw e
step3_wrong text g dec (x ∷ []) e = refl
step3_wrong text g dec (x ∷ y ∷ t) e = simp (e, ne_eqb (suc (suc (length t))) 1 (λ z. omega arith))

-- ---- what stands before the first `e` is no decimal part: it begins with a wrong byte, or has one after a

pub wrong_after : (a : List ℕ) (x : ℕ) (l : List ℕ) → is_plain x ≡ false → (lower x ≡ 101 → ⊥) → decimal_part false (a ++ before 101 (map lower (x ∷ l))) ≡ false
unfolding before
wrong_after a x l e n = rw (ne_eqb (lower x) 101 n) (decimal_wrong false a (lower x) _ (lower-plain x e))

not_plain : (x : ℕ) (l : List ℕ) → decimals (x ∷ l) ≡ [] → is_plain x ≡ false
not_plain x l e =
    ⊎_elim (λ q. absurd (omega (arith, ap length (sym (decimals_more x l q) ∙ e)))) (λ q. q) (cases_Bool (is_plain x))

pub wrong_first : (l : List ℕ) → decimals l ≡ [] → decimal_part false (before 101 (map lower l)) ≡ false
unfolding before decimal_part
wrong_first [] e = refl
wrong_first (x ∷ l) e =
    ⊎_elim (λ q. rw (eq-eqb (lower x) 101 q)) (λ n. wrong_after [] x l (not_plain x l e) n) (eq_or (lower x) 101)

-- ---- the first b and what stands from it on

pub first_low : (b n i : ℕ) (l : List ℕ) → i + length l ≤ n → i ≤ first_at b n i l
first_low b n i [] h = unfold first_at in omega arith
first_low b n i (x ∷ l) h =
    ⊎_elim
    (λ e. rw (first_here b n i x l e) (omega arith))
    (λ e. rw (first_later b n i x l e) (omega (arith, first_low b n (i + 1) l (omega arith))))
    (eq_or x b)

pub first_length : (b n i : ℕ) (l : List ℕ) → i + length l ≤ n → length (from b l) ≡ i + length l - first_at b n i l
unfolding from
first_length b n i [] h = unfold first_at in omega arith
first_length b n i (x ∷ l) h =
    ⊎_elim
    (λ e. rw (eq-eqb x b e, first_here b n i x l e) (omega arith))
    (λ e. rw (ne_eqb x b e, first_later b n i x l e) (first_length b n (i + 1) l (omega arith) ∙ omega arith))
    (eq_or x b)

-- ---- the first point

without_past : (p i : ℕ) (l : List ℕ) → p < i → without p i l ≡ l
without_past p i [] h = unfold without in refl
without_past p i (x ∷ l) h = rw (without-take p i x l (λ e. omega arith), without_past p (i + 1) l (omega arith))

-- a list whose first byte stands at p, or before it
module _ (p i x : ℕ) (l : List ℕ) where
  pub without_here : i ≡ p → without p i (x ∷ l) ≡ l
  without_here e = without_skip p i x l e ∙ without_past p (i + 1) l (omega arith)

  pub without_later : i < p → without p i (x ∷ l) ≡ x ∷ without p (i + 1) l
  without_later h = without-take p i x l (λ e. omega arith)

pub without_first : (n i : ℕ) (l : List ℕ) → i + length l ≤ n → without (first_at 46 n i l) i l ≡ before 46 l ++ fraction l
unfolding before from
without_first n i [] h = unfold without in refl
without_first n i (x ∷ l) h =
    let w : i + 1 + length l ≤ n = omega arith in
    ⊎_elim
    (λ e. rw (first_here 46 n i x l e, eq-eqb x 46 e) (without_here i i x l refl))
    (λ e.
    let k = first_low 46 n (i + 1) l w in
    rw (first_later 46 n i x l e, ne_eqb x 46 e, without_later (first_at 46 n (i + 1) l) i x l (omega arith), without_first n (i + 1) l w))
    (eq_or x 46)

-- ---- the decimal part as it lies in the text

decimals-take : (l : List ℕ) → decimals l ≡ take (length (decimals l)) l
decimals-take [] = unfold decimals in refl
decimals-take (x ∷ l) =
    ⊎_elim
    (λ e. rw (decimals_more x l e) (ap (λ (m : List ℕ). x ∷ m) (decimals-take l)))
    (λ e. rw (decimals_none x l e))
    (cases_Bool (is_plain x))

pub decimals-slice : (s : List ℕ) (i : ℕ) → decimals (drop i s) ≡ slice i (i + length (decimals (drop i s))) s
decimals-slice s i = decimals-take (drop i s) ∙ take-drop i (length (decimals (drop i s))) s

pub decimals-length : (l : List ℕ) → length (decimals l) ≤ length l
decimals-length [] = unfold decimals in omega arith
decimals-length (x ∷ l) =
    ⊎_elim
    (λ e. rw (decimals_more x l e) (omega (arith, decimals-length l)))
    (λ e. rw (decimals_none x l e) (omega arith))
    (cases_Bool (is_plain x))
