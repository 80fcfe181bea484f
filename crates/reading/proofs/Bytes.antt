-- A byte at a time: a list at an offset, and each definition on a list that begins with a given byte.
use mathlib.Core.Path.{◌≡◌, refl, sym, ap, ◌∙◌}
use mathlib.Core.Logic.{◌⊎◌, inl, inr, ⊎_elim}
use mathlib.Core.Bool.{Bool, true, false, cond}
use mathlib.Core.List.{List, [], ◌∷◌, ◌++◌}
use Prim.Native.Nat.{ℕ, ◌+◌, ◌-◌, ◌≤◌, ◌<◌}
use native.Mathlib.Numerals.{add-one}
use native.Mathlib.Omega.{arith}
use lib.ListN.{length, get_or, take, drop, take-append-drop}
use lib.Seq.{slice, slice-cons, take-suc, take-take, drop-append-le, length-take-le}
use borrow.Author.Tests.{eq-eqb, ne_eqb, eqb-true}
use Rattle.meaning.specs.Reading.{is_digit, holds}
use Rattle.meaning.proofs.Numbers.{byte_digit}
use Rattle.reading.specs.Scan.{is_plain, decimals, first_at, second_at, points, unpointed}
use Rattle.reading.specs.Run.{without}
use Rattle.std.proofs.lemmas.Bool.{cases_Bool}
use Rattle.std.proofs.lemmas.List.{drop-take}

-- ---- cases

pub cond_same : {A : Type 0} (t : Bool) (a : A) → cond t a a ≡ a
cond_same true a = refl
cond_same false a = refl

-- ---- a list at an offset

pub slice_step : (f t : ℕ) (s : List ℕ) → f < t → t ≤ length s → slice f t s ≡ get_or s f 0 ∷ slice (f + 1) t s
slice_step f t s h k = rw (add-one, slice-cons f t s 0 h k)

pub slice_more : (s : List ℕ) (f t : ℕ) → f ≤ t → t < length s → slice f (t + 1) s ≡ slice f t s ++ (get_or s t 0 ∷ [])
slice_more s f t h l =
    let q : f ≤ length (take t s) = omega (arith, length-take-le t s (omega arith)) in rw (add-one, take-suc s t 0, drop-append-le f)

pub slice_parts : (f m t : ℕ) (s : List ℕ) → f ≤ m → m ≤ t → t ≤ length s → slice f t s ≡ slice f m s ++ slice m t s
slice_parts f m t s h k l =
    let e : take t s ≡ take m s ++ slice m t s = sym (take-append-drop m (take t s)) ∙ rw take-take in
    let q : f ≤ length (take m s) = omega (arith, length-take-le m s (omega arith)) in
    ap (drop f) e ∙ rw drop-append-le

pub take-drop : (n m : ℕ) (l : List ℕ) → take m (drop n l) ≡ slice n (n + m) l
take-drop n m l = sym (drop-take n m l)

-- what a range of a slice is
pub take-slice : (i t : ℕ) (s : List ℕ) → i ≤ t → take (t - i) (drop i s) ≡ slice i t s
take-slice i t s h = let e : i + (t - i) ≡ t = omega arith in take-drop i (t - i) s ∙ rw e

-- ---- a byte of a decimal part

pub digit_plain : (b : ℕ) → is_digit b ≡ true → is_plain b ≡ true
digit_plain b e = simp e

pub point_plain : (b : ℕ) → b ≡ 46 → is_plain b ≡ true
point_plain b e = rw e

pub neither : (b : ℕ) → is_digit b ≡ false → (b ≡ 46 → ⊥) → is_plain b ≡ false
neither b d q = simp (d, ne_eqb b 46 q)

pub digit_no_point : (b : ℕ) → is_digit b ≡ true → b ≡ 46 → ⊥
digit_no_point b e q = let d = byte_digit b e in omega arith

pub plain_or : (b : ℕ) → is_plain b ≡ true → (is_digit b ≡ true) ⊎ (b ≡ 46)
plain_or b e = ⊎_elim (λ d. inl d) (λ d. inr (eqb-true b 46 (rw d at e))) (cases_Bool (is_digit b))

pub plain-below : (b : ℕ) → is_plain b ≡ true → b ≤ 57
plain-below b e = ⊎_elim (λ d. (byte_digit b d).1) (λ q. omega arith) (plain_or b e)

-- ---- a list that begins with x

module _ (x : ℕ) (s : List ℕ) where
  pub decimals_more : is_plain x ≡ true → decimals (x ∷ s) ≡ x ∷ decimals s
  unfolding decimals
  decimals_more e = simp e

  pub decimals_none : is_plain x ≡ false → decimals (x ∷ s) ≡ []
  unfolding decimals
  decimals_none e = simp e

  pub points_more : x ≡ 46 → points (x ∷ s) ≡ 1 + points s
  unfolding points
  points_more e = simp (eq-eqb x 46 e)

  pub points-same : (x ≡ 46 → ⊥) → points (x ∷ s) ≡ points s
  unfolding points
  points-same e = simp (ne_eqb x 46 e)

  pub unpointed_less : x ≡ 46 → unpointed (x ∷ s) ≡ unpointed s
  unfolding unpointed
  unpointed_less e = simp (eq-eqb x 46 e)

  pub unpointed_more : (x ≡ 46 → ⊥) → unpointed (x ∷ s) ≡ x ∷ unpointed s
  unfolding unpointed
  unpointed_more e = simp (ne_eqb x 46 e)

module _ (b x : ℕ) (s : List ℕ) where
  pub holds_here : x ≡ b → holds b (x ∷ s) ≡ true
  unfolding holds
  holds_here e = rw (eq-eqb x b e)

  pub holds_later : (x ≡ b → ⊥) → holds b (x ∷ s) ≡ holds b s
  unfolding holds
  holds_later e = rw (ne_eqb x b e)

-- ---- and whose first byte stands at i

module _ (b n i x : ℕ) (s : List ℕ) where
  pub first_here : x ≡ b → first_at b n i (x ∷ s) ≡ i
  unfolding first_at
  first_here e = simp (eq-eqb x b e)

  pub first_later : (x ≡ b → ⊥) → first_at b n i (x ∷ s) ≡ first_at b n (i + 1) s
  unfolding first_at
  first_later e = simp (ne_eqb x b e)

module _ (n i x : ℕ) (s : List ℕ) where
  pub second_next : x ≡ 46 → second_at n i (x ∷ s) ≡ first_at 46 n (i + 1) s
  unfolding second_at
  second_next e = simp (eq-eqb x 46 e)

  pub second_later : (x ≡ 46 → ⊥) → second_at n i (x ∷ s) ≡ second_at n (i + 1) s
  unfolding second_at
  second_later e = simp (ne_eqb x 46 e)

module _ (p i x : ℕ) (s : List ℕ) where
  pub without_skip : i ≡ p → without p i (x ∷ s) ≡ without p (i + 1) s
  unfolding without
  without_skip e = simp (eq-eqb i p e)

  pub without-take : (i ≡ p → ⊥) → without p i (x ∷ s) ≡ x ∷ without p (i + 1) s
  unfolding without
  without-take e = simp (ne_eqb i p e)
