-- A reading is refused by one of the numbers 1 to 7, at a place in its text.
use mathlib.Core.Path.{◌≡◌, refl, subst}
use mathlib.Core.Logic.{inl, inr}
use mathlib.Core.Bool.{Bool, true, false, cond, ◌||◌}
use mathlib.Core.List.{List, [], ◌∷◌, map}
use Prim.Native.Nat.{ℕ, ◌+◌, ◌-◌, ◌≤◌, ◌<◌}
use native.Mathlib.Nat.{le_of_lt}
use native.Mathlib.Omega.{arith}
use lib.Dec.{eqb, leb, lit≤}
use lib.ListN.{length, take, drop}
use borrow.Author.Tests.{eqb-true}
use Rattle.meaning.specs.Refusals.{Refusal, number_of}
use Rattle.meaning.specs.Refusals.Refusal.{empty_exponent, invalid_coefficient, overflow, inexact_rounding}
use Rattle.meaning.specs.Decimal.{Decimal}
use Rattle.meaning.specs.Reading.{Located, Written, refused_at, accepted_as, bytes, lower, same, all_zeros, holds, decimal_part, before, from, fraction, run_of, low, high, lost, the_e, after_e, sign_length, decimal_of, second_point, first_cut, step2, step3, step4, step5, step6, step7, step8, step9, step10, step11, read_at}
use Rattle.meaning.specs.Reading.Reading.{refused, accepted}
use Rattle.meaning.specs.Reading.Written.{written, wrong}
use Rattle.meaning.specs.Promises.{Begins, Shows, RefusesBy1To7, EveryPlaceIsWithin, EveryPlaceShowsWhy, NamedBytesAreThere, AcceptedCarriesZero, NamesAByte}
use Rattle.meaning.proofs.Places.{either_true, from-holds, take-holds, take_other, padded_holds, decimal-signed, decimal_unsigned, begins_within, e_shown, after_within, wrong_within, wrong_shown, second_shown, cut_shown}

-- a refusal is one of 1 to 7, and its place is in the text and shows why
data Fair (text : List ℕ) : Located → Type 0 where
  refusal : {r : Refusal} {p : ℕ} → number_of r ≤ 7 → p ≤ length text → Shows r (drop p text) → Fair text (refused_at r p)
  value : {v : Decimal} → Fair text (accepted_as v)

-- a byte is shown by 1, 3 and 6
named_there : (r : Refusal) (p : ℕ) (s : List ℕ) → Shows r (drop p s) → NamesAByte r → p < length s
named_there r p s b (inl e) = begins_within (λ (x : ℕ). lower x ≡ 101) p s (subst (λ (q : Refusal). Shows q (drop p s)) e b)
named_there r p s b (inr (inl e)) = begins_within (λ (x : ℕ). x ≡ 46) p s (subst (λ (q : Refusal). Shows q (drop p s)) e b)
named_there r p s b (inr (inr e)) = begins_within (λ (x : ℕ). x ≡ 48 → ⊥) p s (subst (λ (q : Refusal). Shows q (drop p s)) e b)

-- either way of a test; what it says may be used
both_ways : {text : List ℕ} (t : Bool) {a b : Located} → (t ≡ true → Fair text a) → (t ≡ false → Fair text b) → Fair text (cond t a b)
both_ways true p q = p refl
both_ways false p q = q refl

-- a run whose second point and whose bytes to be cut are in the text
record Lies (text run : List ℕ) : Type 0 where
  second : holds 46 run ≡ true → Begins (λ (b : ℕ). b ≡ 46) (drop (second_point text) text)
  cut : (n : ℕ) → all_zeros (drop n run) ≡ false → Begins (λ (b : ℕ). b ≡ 48 → ⊥) (drop (first_cut n text) text)

lies_take : {text run : List ℕ} (k : ℕ) → Lies text run → Lies text (take k run)
lies_take {text} {run} k l =
    record {
      second = λ h. l.second (take-holds 46 k run h);
      cut = λ n z. l.cut n (take_other n k run z);
    }

module _ (text : List ℕ) (sign : Bool) where
  -- a refusal that names a byte
  byte : (r : Refusal) (p : ℕ) → number_of r ≤ 7 → NamesAByte r → Shows r (drop p text) → Fair text (refused_at r p)
  byte r p n e b = refusal n (le_of_lt (named_there r p text b e)) b

  fair11 : (x : ℕ) (run : List ℕ) → (holds 46 run ≡ true → Begins (λ (b : ℕ). b ≡ 46) (drop (second_point text) text)) → Fair text (step11 text sign x run)
  unfolding step11 number_of
  fair11 x run l = both_ways (holds 46 run) (λ h. byte invalid_coefficient (second_point text) (lit≤ tt) (inr (inl refl)) (l h)) (λ _. value)

  over : Fair text (refused_at overflow (after_e text))
  unfolding number_of
  over = refusal (lit≤ tt) (after_within text) tt

  fair10 : (x : ℕ) (run : List ℕ) → Lies text run → Fair text (step10 text sign x run)
  unfolding step10
  fair10 x run l =
      both_ways (leb x high)
      (λ _. fair11 x run l.second)
      (λ _. both_ways (leb (length run + (x - high)) 34)
      (λ _. fair11 _ _ (λ h. l.second (padded_holds run (x - high) h)))
      (λ _. over))

  fair9 : (x : ℕ) (run : List ℕ) → Lies text run → Fair text (step9 text sign x run)
  unfolding step9 number_of
  fair9 x run l =
      both_ways (leb low x)
      (λ _. fair10 x run l)
      (λ _. both_ways (leb (low - x) (length run))
      (λ _. both_ways (all_zeros (lost (low - x) run))
      (λ _. fair10 _ _ (lies_take (length run - (low - x)) l))
      (λ z. byte inexact_rounding _ (lit≤ tt) (inr (inr refl)) (l.cut (length run - (low - x)) z)))
      (λ _. over))

  fair8 : (x : ℕ) (run : List ℕ) → Lies text run → Fair text (step8 text sign x run)
  unfolding step8 number_of
  fair8 x run l =
      both_ways (leb (length run) 34)
      (λ _. fair9 x run l)
      (λ _. both_ways (all_zeros (drop 34 run)) (λ _. fair9 _ _ (lies_take 34 l)) (λ z. byte inexact_rounding _ (lit≤ tt) (inr (inr refl)) (l.cut 34 z)))

  fair7 : (x : ℕ) (run : List ℕ) → Lies text run → Fair text (step7 text sign x run)
  unfolding step7
  fair7 x [] l = value
  fair7 x (b ∷ s) l = fair8 x (b ∷ s) l

  module _ (dec : List ℕ) (is : dec ≡ decimal_of text) where
    lies : Lies text (run_of dec)
    lies = rw is (record { second = second_shown text; cut = cut_shown text })

    fair5 : (w : Written) → Fair text (step5 text sign dec w)
    unfolding step5 step6 number_of
    fair5 wrong = refusal (lit≤ tt) (after_within text) tt
    fair5 (written e) =
        both_ways (leb (length (fraction dec)) e) (λ _. fair7 _ _ lies) (λ _. refusal (lit≤ tt) (after_within text) tt)

    fair4 : (w : Written) → Fair text (step4 text sign dec w)
    unfolding step4 number_of
    fair4 w = both_ways (decimal_part false dec) (λ _. fair5 w) (λ _. refusal (lit≤ tt) (wrong_within text) (wrong_shown text))

    fair3 : (tail : List ℕ) → (1 ≤ length tail → Begins (λ (b : ℕ). lower b ≡ 101) (drop (the_e text) text)) → Fair text (step3 text sign dec tail)
    unfolding step3 number_of
    fair3 [] h = fair4 _
    fair3 (e ∷ []) h = byte empty_exponent _ (lit≤ tt) (inl refl) (h (lit≤ tt))
    fair3 (e ∷ b ∷ s) h = fair4 _

  fair2 : (t : List ℕ) → before 101 t ≡ decimal_of text → (holds 101 t ≡ true → holds 101 (map lower text) ≡ true) → Fair text (step2 text sign t)
  unfolding step2
  fair2 t is h =
      both_ways (same t (bytes "nan")) (λ _. value)
      (λ _. both_ways (same t (bytes "snan")) (λ _. value)
      (λ _. both_ways (same t (bytes "infinity") || same t (bytes "inf")) (λ _. value) (λ _. fair3 (before 101 t) is (from 101 t) (λ l. e_shown text (h (from-holds 101 t l))))))

-- what stands after the sign, or the whole
fair : (s : List ℕ) → Fair s (read_at s)
unfolding read_at holds
fair [] = fair2 [] false [] (unfold before sign_length in refl) (λ h. h)
fair (b ∷ s) =
    both_ways (eqb b 45)
    (λ e. fair2 (b ∷ s) true (map lower s) (decimal-signed b s (inl (eqb-true b 45 e))) (either_true (eqb (lower b) 101) _))
    (λ e. both_ways (eqb b 43)
    (λ f. fair2 (b ∷ s) false (map lower s) (decimal-signed b s (inr (eqb-true b 43 f))) (either_true (eqb (lower b) 101) _))
    (λ f. fair2 (b ∷ s) false (map lower (b ∷ s)) (decimal_unsigned b s e f) (λ h. h)))

-- ---- what it says of a text

within : {text : List ℕ} {a : Located} → Fair text a → a.place ≤ length text
within (refusal n l p) = l
within value = omega arith

pub every_place_is_within : EveryPlaceIsWithin
every_place_is_within s = within (fair s)

-- what a fair refusal has
record Has (text : List ℕ) (r : Refusal) (p : ℕ) : Type 0 where
  small : number_of r ≤ 7
  shows : Shows r (drop p text)

has : {text : List ℕ} {a : Located} {r : Refusal} → Fair text a → a.reading ≡ refused r → Has text r a.place
has {text} {r = r} (refusal {r = q} {p = o} n l p) e =
    subst (λ (k : Refusal). Has text k o) (let f : q ≡ r = cc in f) (record { small = n; shows = p })
has value e = absurd (let z : ◌≡◌ {A = ℕ} 0 1 = cc in omega arith)

pub refuses_by_1_to_7 : RefusesBy1To7
refuses_by_1_to_7 s r e = (has (fair s) e).small

pub every_place_shows_why : EveryPlaceShowsWhy
every_place_shows_why s r e = (has (fair s) e).shows

pub named_bytes_are_there : NamedBytesAreThere
named_bytes_are_there s r e = named_there r (read_at s).place s (every_place_shows_why s r e)

-- what is accepted has the place 0
zero_place : {text : List ℕ} {a : Located} {v : Decimal} → Fair text a → a.reading ≡ accepted v → a.place ≡ 0
zero_place (refusal n l p) e = absurd (let z : ◌≡◌ {A = ℕ} 0 1 = cc in omega arith)
zero_place value e = refl

pub accepted_carries_zero : AcceptedCarriesZero
accepted_carries_zero s v e = zero_place (fair s) e
