-- Letters in lower case are no digits, signs or points, so a decimal part and an exponent read the same with them.
use mathlib.Core.Path.{◌≡◌, refl, sym, ap, ◌∙◌}
use mathlib.Core.Logic.{◌⊎◌, inl, inr, ⊎_elim}
use mathlib.Core.Bool.{Bool, true, false, ◌&&◌, cond}
use mathlib.Core.List.{List, [], ◌∷◌, map}
use Prim.Native.Nat.{ℕ, ◌+◌, ◌≤◌, ◌<◌}
use native.Mathlib.Omega.{arith}
use lib.Dec.{eqb, leb}
use borrow.Author.Tests.{ne_eqb, le-leb, lt-leb, leb-true}
use Rattle.meaning.specs.Reading.{is_digit, lower, all_digits, some_digits, upward, downward, exponent, Written}
use Rattle.meaning.proofs.Numbers.{both, byte_digit}
use Rattle.reading.specs.Scan.{is_plain}
use Rattle.reading.proofs.Bytes.{plain-below}
use Rattle.std.proofs.lemmas.Bool.{cases_Bool}

-- a byte is left as it is, or it is a letter, before and after
lower_or : (b : ℕ) → (lower b ≡ b) ⊎ ((58 ≤ b) × (58 ≤ lower b))
lower_or b = go (leb 65 b) (leb b 90) refl
  where
    go : (t u : Bool) → leb 65 b ≡ t → (cond (t && u) (b + 32) b ≡ b) ⊎ ((58 ≤ b) × (58 ≤ cond (t && u) (b + 32) b))
    go true true h = let l = leb-true 65 b h in inr (omega arith, omega arith)
    go true false h = inl refl
    go false true h = inl refl
    go false false h = inl refl

pub plain-lower : (b : ℕ) → is_plain b ≡ true → lower b ≡ b
plain-lower b e = ⊎_elim (λ q. q) (λ h. absurd (omega (arith, h.0, plain-below b e))) (lower_or b)

pub lower-plain : (b : ℕ) → is_plain b ≡ false → is_plain (lower b) ≡ false
lower-plain b e =
    ⊎_elim
    (λ q. ap is_plain q ∙ e)
    (λ h. ⊎_elim (λ p. absurd (omega (arith, h.1, plain-below (lower b) p))) (λ p. p) (cases_Bool (is_plain (lower b))))
    (lower_or b)

no_digit : (b : ℕ) → 58 ≤ b → is_digit b ≡ false
no_digit b h = simp (lt-leb b 57 h, le-leb 48 b (omega arith))

digit_lower : (b : ℕ) → is_digit (lower b) ≡ is_digit b
digit_lower b =
    ⊎_elim (λ e. ap is_digit e) (λ h. no_digit (lower b) h.1 ∙ sym (no_digit b h.0)) (lower_or b)

sign-lower : (g b : ℕ) → g < 58 → eqb (lower b) g ≡ eqb b g
sign-lower g b l =
    ⊎_elim
    (λ e. ap (λ (x : ℕ). eqb x g) e)
    (λ h. ne_eqb (lower b) g (λ e. omega (arith, h.1)) ∙ sym (ne_eqb b g (λ e. omega (arith, h.0))))
    (lower_or b)

digits_lower : (s : List ℕ) → all_digits (map lower s) ≡ all_digits s
unfolding all_digits
digits_lower [] = refl
digits_lower (b ∷ s) = rw (digit_lower b, digits_lower s)

-- digits are no letters
digits_same : (s : List ℕ) → all_digits s ≡ true → map lower s ≡ s
unfolding all_digits
digits_same [] e = refl
digits_same (b ∷ s) e =
    let h = both (is_digit b) (all_digits s) e in
    let d = byte_digit b h.0 in
    ⊎_elim (λ q. ap (λ (x : ℕ). x ∷ map lower s) q ∙ ap (λ (l : List ℕ). b ∷ l) (digits_same s h.1)) (λ q. absurd (omega (arith, q.0))) (lower_or b)

some_lower : (s : List ℕ) → some_digits (map lower s) ≡ some_digits s
unfolding some_digits
some_lower [] = refl
some_lower (b ∷ s) = digits_lower (b ∷ s)

some_all : (s : List ℕ) → some_digits s ≡ true → all_digits s ≡ true
unfolding some_digits all_digits
some_all [] e = refl
some_all (b ∷ s) e = e

-- what follows from a run of digits, and is the same wherever there is none
module _ (f : List ℕ → Written) (none : (s t : List ℕ) → some_digits s ≡ false → some_digits t ≡ false → f s ≡ f t) where
  read_lower : (s : List ℕ) → f (map lower s) ≡ f s
  read_lower s =
      ⊎_elim
      (λ e. ap f (digits_same s (some_all s e)))
      (λ e. none (map lower s) s (some_lower s ∙ e) e)
      (cases_Bool (some_digits s))

upward-lower : (s : List ℕ) → upward (map lower s) ≡ upward s
upward-lower = read_lower upward (λ s t p q. simp (p, q))

downward-lower : (s : List ℕ) → downward (map lower s) ≡ downward s
downward-lower = read_lower downward (λ s t p q. simp (p, q))

pub exponent-lower : (s : List ℕ) → exponent (map lower s) ≡ exponent s
unfolding exponent
exponent-lower [] = refl
exponent-lower (b ∷ s) =
    rw (sign-lower 45 b (omega arith), sign-lower 43 b (omega arith), downward-lower s, upward-lower s, upward-lower (b ∷ s))
