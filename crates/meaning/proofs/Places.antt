-- Where the places lie, and what stands there.
use mathlib.Core.Path.{◌≡◌, refl, sym, ap, subst, ◌∙◌}
use mathlib.Core.Logic.{◌⊎◌, inl, inr, ⊎_elim}
use mathlib.Core.Bool.{Bool, true, false, ◌||◌, and-false, true≢false}
use mathlib.Core.List.{List, [], ◌∷◌, ◌++◌, map}
use Prim.Native.Nat.{ℕ, zero, suc, ◌+◌, ◌-◌, ◌≤◌, ◌<◌, min}
use native.Mathlib.Omega.{arith}
use lib.Dec.{eqb}
use lib.ListN.{length, take, drop, replicate, length-append, length-drop, length-map, drop_of_length-le}
use lib.Seq.{drop-append-le, drop-append-add, drop-drop}
use borrow.Author.Tests.{eqb-true, eqb-false, ne_eqb, le-leb, lt-leb}
use Rattle.meaning.specs.Refusals.Refusal.{unparseable}
use Rattle.meaning.specs.Reading.{is_digit, lower, before, from, fraction, holds, all_zeros, strip_zeros, run_of, the_e, after_e, sign_length, decimal_of, second_point, plain_bytes, wrong_byte, last_bytes, first_cut}
use Rattle.meaning.specs.Promises.{Begins, Shows}
use Rattle.meaning.proofs.Numbers.{by_test, both, both_of, le_or}
use Rattle.meaning.proofs.Accepted.{parted, lower-low}

-- ---- lists parted at a byte

parted_length : (c : ℕ) (s : List ℕ) → length (before c s) + length (from c s) ≡ length s
parted_length c s = sym (length-append (before c s) (from c s)) ∙ ap length (sym (parted c s))

pub either_true : (a b : Bool) → b ≡ true → (a || b) ≡ true
either_true true b h = refl
either_true false b h = h

-- a byte that is held stands before the end
held_before : (c : ℕ) (s : List ℕ) → holds c s ≡ true → length (before c s) < length s
unfolding holds before
held_before c [] h = absurd (true≢false (sym h))
held_before c (x ∷ s) h =
    by_test (eqb x c) (λ e. rw e (omega arith)) (λ e. rw e (omega (arith, held_before c s (rw e at h))))

pub from-holds : (c : ℕ) (s : List ℕ) → 1 ≤ length (from c s) → holds c s ≡ true
unfolding holds from
from-holds c [] h = absurd (omega arith)
from-holds c (x ∷ s) h = by_test (eqb x c) (λ e. rw e) (λ e. rw e (from-holds c s (rw e at h)))

before-holds : (c : ℕ) (s t : List ℕ) → holds c (before c s ++ t) ≡ holds c t
unfolding holds before
before-holds c [] t = refl
before-holds c (x ∷ s) t = by_test (eqb x c) (λ e. rw e) (λ e. rw e (rw (e, before-holds c s t)))

strip_holds : (c : ℕ) (s : List ℕ) → holds c (strip_zeros s) ≡ true → holds c s ≡ true
unfolding holds strip_zeros
strip_holds c [] h = h
strip_holds c (x ∷ s) h =
    by_test (eqb x 48)
    (λ e. either_true (eqb x c) (holds c s) (strip_holds c s (rw e at h)))
    (λ e. rw e at h)

pub take-holds : (c k : ℕ) (s : List ℕ) → holds c (take k s) ≡ true → holds c s ≡ true
unfolding holds
take-holds c zero s h = absurd (true≢false (sym h))
take-holds c (suc k) [] h = h
take-holds c (suc k) (x ∷ s) h =
    by_test (eqb x c) (λ e. rw e) (λ e. rw e (take-holds c k s (rw e at h)))

-- what is all zeros still is when only its front is left
zeros_take : (k : ℕ) (s : List ℕ) → all_zeros s ≡ true → all_zeros (take k s) ≡ true
unfolding all_zeros
zeros_take zero s h = refl
zeros_take (suc k) [] h = refl
zeros_take (suc k) (x ∷ s) h =
    let b = both (eqb x 48) (all_zeros s) h in both_of (eqb x 48) (all_zeros (take k s)) b.0 (zeros_take k s b.1)

pub take_other : (n k : ℕ) (s : List ℕ) → all_zeros (drop n (take k s)) ≡ false → all_zeros (drop n s) ≡ false
take_other zero k s h =
    by_test (all_zeros s) (λ z. absurd (true≢false (sym (zeros_take k s z) ∙ h))) (λ z. z)
take_other (suc n) zero s h = unfold all_zeros in absurd (true≢false h)
take_other (suc n) (suc k) [] h = h
take_other (suc n) (suc k) (x ∷ s) h = take_other n k s h

pub padded_holds : (s : List ℕ) (n : ℕ) → holds 46 (s ++ replicate n 48) ≡ true → holds 46 s ≡ true
unfolding holds
padded_holds [] zero h = h
padded_holds [] (suc n) h = padded_holds [] n h
padded_holds (x ∷ s) n h = by_test (eqb x 46) (λ e. rw e) (λ e. rw e (padded_holds s n (rw e at h)))

-- ---- the sign and the decimal part

sign_fits : (text : List ℕ) → sign_length text ≤ the_e text
unfolding sign_length the_e before
sign_fits [] = omega arith
sign_fits (b ∷ s) =
    by_test (eqb b 45)
    (λ e. rw (e, eqb-true b 45 e) (omega arith))
    (λ e. by_test (eqb b 43) (λ f. rw (e, f, eqb-true b 43 f) (omega arith)) (λ f. rw (e, f) (omega arith)))

-- the decimal part of a text with a sign, and of one without
pub decimal-signed : (b : ℕ) (s : List ℕ) → (b ≡ 45) ⊎ (b ≡ 43) → before 101 (map lower s) ≡ decimal_of (b ∷ s)
unfolding sign_length before
decimal-signed b s (inl e) = rw e
decimal-signed b s (inr e) = rw e

pub decimal_unsigned : (b : ℕ) (s : List ℕ) → eqb b 45 ≡ false → eqb b 43 ≡ false → before 101 (map lower (b ∷ s)) ≡ decimal_of (b ∷ s)
unfolding sign_length
decimal_unsigned b s e f = rw (e, f)

pub decimal_ends : (text : List ℕ) → sign_length text + length (decimal_of text) ≡ the_e text
unfolding the_e
decimal_ends text = omega (arith, sign_fits text, length-drop (sign_length text) (before 101 (map lower text)))

e_within : (text : List ℕ) → the_e text ≤ length text
unfolding the_e
e_within text = omega (arith, parted_length 101 (map lower text), length-map text lower)

e_there : (text : List ℕ) → holds 101 (map lower text) ≡ true → the_e text < length text
unfolding the_e
e_there text h = omega (arith, held_before 101 (map lower text) h, length-map text lower)

e_none : (text : List ℕ) → holds 101 (map lower text) ≡ false → the_e text ≡ length text
unfolding the_e
e_none text h =
    ⊎_elim
    (λ l. absurd (true≢false (sym (from-holds 101 (map lower text) l) ∙ h)))
    (λ l. omega (arith, parted_length 101 (map lower text), length-map text lower))
    (le_or 1 (length (from 101 (map lower text))))

-- the byte after the `e` is there, or the end is meant
pub after_is : (text : List ℕ) → after_e text ≡ min (the_e text + 1) (length text)
unfolding after_e
after_is text =
    by_test (holds 101 (map lower text))
    (λ h. rw h (omega (arith, e_there text h)))
    (λ h. rw h (omega (arith, e_none text h)))

pub after_within : (text : List ℕ) → after_e text ≤ length text
after_within text = rw (after_is text) (omega arith)

plain_most : (s : List ℕ) → plain_bytes s ≤ length s
unfolding plain_bytes
plain_most [] = omega arith
plain_most (b ∷ s) =
    by_test (is_digit b || eqb b 46) (λ e. rw e (omega (arith, plain_most s))) (λ e. rw e (omega arith))

pub wrong_within : (text : List ℕ) → wrong_byte text ≤ length text
unfolding wrong_byte
wrong_within text = omega (arith, plain_most (decimal_of text), decimal_ends text, e_within text)

-- ---- what stands first

module _ (P : ℕ → Type 0) where
  pub begins_within : (p : ℕ) (s : List ℕ) → Begins P (drop p s) → p < length s
  begins_within zero [] b = absurd b
  begins_within zero (x ∷ s) b = omega arith
  begins_within (suc p) [] b = absurd b
  begins_within (suc p) (x ∷ s) b = omega (arith, begins_within p s b)

  begins_append : (s t : List ℕ) → Begins P s → Begins P (s ++ t)
  begins_append [] t b = absurd b
  begins_append (x ∷ s) t b = b

  begins_front : (s t : List ℕ) → 1 ≤ length s → Begins P (s ++ t) → Begins P s
  begins_front [] t h b = absurd (omega arith)
  begins_front (x ∷ s) t h b = b

  begins_map : (s : List ℕ) → Begins P (map lower s) → Begins (λ (b : ℕ). P (lower b)) s
  begins_map [] b = b
  begins_map (x ∷ s) b = b

  begins_as : (Q : ℕ → Type 0) → ((b : ℕ) → P b → Q b) → (s : List ℕ) → Begins P s → Begins Q s
  begins_as Q f [] b = b
  begins_as Q f (x ∷ s) b = f x b

drop-map : (p : ℕ) (s : List ℕ) → drop p (map lower s) ≡ map lower (drop p s)
drop-map zero s = refl
drop-map (suc p) [] = refl
drop-map (suc p) (x ∷ s) = drop-map p s

drop-before : (c : ℕ) (s : List ℕ) → drop (length (before c s)) s ≡ from c s
unfolding before from
drop-before c [] = refl
drop-before c (x ∷ s) = by_test (eqb x c) (λ e. rw e) (λ e. rw e (drop-before c s))

-- a byte that is c, one other than `0`, and one that is neither digit nor point
abbrev Is : ℕ → ℕ → Type 0
Is c b = b ≡ c

abbrev Other : ℕ → Type 0
Other b = b ≡ 48 → ⊥

abbrev Wrong : ℕ → Type 0
Wrong b = (is_digit b || eqb b 46) ≡ false

from_begins : (c : ℕ) (s : List ℕ) → holds c s ≡ true → Begins (Is c) (from c s)
unfolding holds from
from_begins c [] h = absurd (true≢false (sym h))
from_begins c (x ∷ s) h = by_test (eqb x c) (λ e. rw e (eqb-true x c e)) (λ e. rw e (from_begins c s (rw e at h)))

strip_begins : (s : List ℕ) → all_zeros s ≡ false → Begins Other (strip_zeros s)
unfolding all_zeros strip_zeros
strip_begins [] z = absurd (true≢false z)
strip_begins (x ∷ s) z =
    by_test (eqb x 48) (λ e. rw e (strip_begins s (rw e at z))) (λ e. rw e (eqb-false x 48 e))

-- ---- 1: the `e`

pub e_shown : (text : List ℕ) → holds 101 (map lower text) ≡ true → Begins (λ (b : ℕ). lower b ≡ 101) (drop (the_e text) text)
unfolding the_e
e_shown text h =
    let m = map lower text in
    let p = length (before 101 m) in
    begins_map (Is 101) (drop p text) (rw (← drop-map p text, drop-before 101 m) (from_begins 101 m h))

-- ---- a byte of the decimal part as it stands in the text

text_begins : (P : ℕ → Type 0) (text : List ℕ) (j : ℕ) → Begins P (drop j (decimal_of text)) → Begins (λ (b : ℕ). P (lower b)) (drop (sign_length text + j) text)
text_begins P text j b =
    let m = map lower text in
    let k = sign_length text + j in
    let a : Begins P (drop k (before 101 m)) = rw drop-drop at b in
    let l = begins_within P k (before 101 m) a in
    let e : drop k (before 101 m) ++ from 101 m ≡ map lower (drop k text) =
    sym (drop-append-le k (before 101 m) (from 101 m) (omega (arith, l))) ∙ ap (drop k) (sym (parted 101 m)) ∙ drop-map k text in
    begins_map P (drop k text) (subst (λ (t : List ℕ). Begins P t) e (begins_append P (drop k (before 101 m)) (from 101 m) a))

-- ---- 3: the second point

module _ (dec : List ℕ) where
  point_there : 1 ≤ length (fraction dec) → length (before 46 dec) + 1 + length (fraction dec) ≡ length dec
  point_there h = omega (arith, parted_length 46 dec, length-drop 1 (from 46 dec))

  -- what stands n bytes after the point
  drop_point : (n : ℕ) → drop (length (before 46 dec) + (1 + n)) dec ≡ drop n (fraction dec)
  drop_point n =
      ap (drop (length (before 46 dec) + (1 + n))) (parted 46 dec)
      ∙ drop-append-add (before 46 dec) (from 46 dec) (1 + n)
      ∙ sym (drop-drop n 1 (from 46 dec))

pub second_shown : (text : List ℕ) → holds 46 (run_of (decimal_of text)) ≡ true → Begins (λ (b : ℕ). b ≡ 46) (drop (second_point text) text)
unfolding second_point
second_shown text h =
    let dec = decimal_of text in
    let f : holds 46 (fraction dec) ≡ true =
    sym (before-holds 46 dec (fraction dec)) ∙ strip_holds 46 (before 46 dec ++ fraction dec) h in
    let b = length (before 46 (fraction dec)) in
    let j = length (before 46 dec) + (1 + b) in
    let e : sign_length text + j ≡ second_point text = omega arith in
    let g : Begins (Is 46) (drop j dec) =
    rw (drop_point dec b, drop-before 46 (fraction dec)) (from_begins 46 (fraction dec) f) in
    subst (λ (p : ℕ). Begins (Is 46) (drop p text)) e
    (begins_as (λ (x : ℕ). lower x ≡ 46) (Is 46) (λ x q. sym (lower-low x (omega arith)) ∙ q) (drop (sign_length text + j) text) (text_begins (Is 46) text j g))

-- ---- 6: the first byte that is cut

strip_ends : (s : List ℕ) → (n : ℕ) × (strip_zeros s ≡ drop n s)
unfolding strip_zeros
strip_ends [] = (0, refl)
strip_ends (x ∷ s) = by_test (eqb x 48) (λ e. let t = strip_ends s in (suc t.0, rw e t.1)) (λ e. (0, rw e))

module _ (dec u : List ℕ) (b : Begins Other u) where
  some_left : 1 ≤ length u
  some_left = begins_within Other 0 u b

  module _ (n : ℕ) (e : u ≡ drop n (before 46 dec ++ fraction dec)) where
    abbrev B : ℕ
    B = length (before 46 dec)

    abbrev F : ℕ
    F = length (fraction dec)

    left : length u ≡ B + F - n
    left =
        ap length e
        ∙ length-drop n (before 46 dec ++ fraction dec)
        ∙ ap (λ (j : ℕ). j - n) (length-append (before 46 dec) (fraction dec))

    -- u begins after the point
    last-after : length u ≤ F → Begins Other (drop (last_bytes (length u) dec) dec)
    unfolding last_bytes
    last-after h =
        let o : n ≡ B + (n - B) = omega (arith, some_left, left) in
        let q : u ≡ drop (n - B) (fraction dec) =
        e ∙ ap (λ (j : ℕ). drop j (before 46 dec ++ fraction dec)) o ∙ drop-append-add (before 46 dec) (fraction dec) (n - B) in
        let i : B + (1 + (n - B)) ≡ last_bytes (length u) dec =
        rw (le-leb (length u) F h) (omega (arith, point_there dec (omega (arith, some_left)), some_left, left)) in
        subst (λ (j : ℕ). Begins Other (drop j dec)) i (rw (drop_point dec (n - B), ← q) b)

    -- u begins before it
    last-before : F < length u → Begins Other (drop (last_bytes (length u) dec) dec)
    unfolding last_bytes
    last-before h =
        let o : n < B = omega (arith, some_left, left) in
        let q : u ≡ drop n (before 46 dec) ++ fraction dec = e ∙ drop-append-le n (before 46 dec) (fraction dec) (omega (arith, o)) in
        let a : Begins Other (drop n (before 46 dec)) =
        begins_front Other (drop n (before 46 dec)) (fraction dec) (omega (arith, length-drop n (before 46 dec), o)) (rw q at b) in
        let w : drop n dec ≡ drop n (before 46 dec) ++ from 46 dec =
        ap (drop n) (parted 46 dec) ∙ drop-append-le n (before 46 dec) (from 46 dec) (omega (arith, o)) in
        let i : n ≡ last_bytes (length u) dec = rw (lt-leb (length u) F h) (omega (arith, some_left, left)) in
        subst (λ (j : ℕ). Begins Other (drop j dec)) i (rw w (begins_append Other (drop n (before 46 dec)) (from 46 dec) a))

    -- the last bytes of the run begin where u begins
    last-shown : Begins Other (drop (last_bytes (length u) dec) dec)
    last-shown = ⊎_elim last-after last-before (le_or (length u) F)

pub cut_shown : (text : List ℕ) (n : ℕ) → all_zeros (drop n (run_of (decimal_of text))) ≡ false → Begins (λ (b : ℕ). b ≡ 48 → ⊥) (drop (first_cut n text) text)
unfolding first_cut
cut_shown text n z =
    let dec = decimal_of text in
    let r = before 46 dec ++ fraction dec in
    let u = strip_zeros (drop n (run_of dec)) in
    let s = strip_ends r in
    let t = strip_ends (drop n (run_of dec)) in
    let e : u ≡ drop (s.0 + n + t.0) r =
    t.1 ∙ ap (λ (l : List ℕ). drop t.0 (drop n l)) s.1 ∙ ap (drop t.0) (drop-drop n s.0 r) ∙ drop-drop t.0 (s.0 + n) r in
    begins_as (λ (x : ℕ). Other (lower x)) Other (λ x f q. f (rw q)) (drop (sign_length text + last_bytes (length u) dec) text)
    (text_begins Other text (last_bytes (length u) dec) (last-shown dec u (strip_begins (drop n (run_of dec)) z) (s.0 + n + t.0) e))

-- ---- 7: a wrong byte, or the end

plain_shown : (s : List ℕ) → (plain_bytes s ≡ length s) ⊎ Begins Wrong (drop (plain_bytes s) s)
unfolding plain_bytes
plain_shown [] = inl refl
plain_shown (x ∷ s) =
    by_test (is_digit x || eqb x 46)
    (λ e.
    let o : 1 + plain_bytes s ≡ suc (plain_bytes s) = omega arith in
    ⊎_elim (λ q. inl (rw (e, o) (ap suc q))) (λ b. inr (rw (e, o) b)) (plain_shown s))
    (λ e. inr (rw e e))

-- no letter becomes a digit or a point
wrong_lower : (b : ℕ) → Wrong (lower b) → Wrong b
wrong_lower b w =
    ⊎_elim
    (λ h. let e : lower b ≡ b = simp (lt-leb 65 b (omega (arith, h))) in rw e at w)
    (λ h. simp (lt-leb b 57 (omega (arith, h)), ne_eqb b 46 (λ e. omega (arith, h)), and-false))
    (le_or b 64)

shows_wrong : (t : List ℕ) → Begins (λ (b : ℕ). Wrong (lower b)) t → Shows unparseable t
shows_wrong [] w = absurd w
shows_wrong (b ∷ t) w = wrong_lower b w

-- an `e`, or nothing
end_shown : (text : List ℕ) → Shows unparseable (drop (the_e text) text)
end_shown text =
    by_test (holds 101 (map lower text))
    (λ h. shows_wrong (drop (the_e text) text) (begins_as (λ (b : ℕ). lower b ≡ 101) (λ (b : ℕ). Wrong (lower b)) (λ b e. rw e) (drop (the_e text) text) (e_shown text h)))
    (λ h. let l : length text ≤ the_e text = omega (arith, e_none text h) in rw (drop_of_length-le text l) tt)

pub wrong_shown : (text : List ℕ) → Shows unparseable (drop (wrong_byte text) text)
unfolding wrong_byte
wrong_shown text =
    let dec = decimal_of text in
    let p = sign_length text + plain_bytes dec in
    ⊎_elim
    (λ q. let e : p ≡ the_e text = omega (arith, decimal_ends text, q) in rw e (end_shown text))
    (λ w. shows_wrong (drop p text) (text_begins Wrong text (plain_bytes dec) w))
    (plain_shown dec)
