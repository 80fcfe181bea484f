-- How long the texts are: at most 42 bytes, and 44 in the debug form.
use mathlib.Core.Path.{◌≡◌, refl}
use mathlib.Core.Logic.{⊎_elim}
use mathlib.Core.Bool.{Bool, true, false}
use mathlib.Core.List.{List, [], ◌∷◌}
use Prim.Native.Nat.{ℕ, ◌+◌, ◌-◌, ◌*◌, ◌≤◌}
use native.Mathlib.Omega.{arith}
use lib.ListN.{length, length-append, length-take, length-drop, length-replicate}
use borrow.Author.Tests.{le-leb, lt-leb, lt-ltb, le-ltb, eq-eqb, ne_eqb}
use Rattle.meaning.specs.Decimal.Decimal.{nan, infinity, finite}
use Rattle.meaning.specs.Reading.{bytes}
use Rattle.meaning.specs.Writing.{decimal, digits_before, exponent_text, exponential, plain, magnitude, signed, write_text, hexes, debug_text}
use Rattle.meaning.specs.Promises.{TextHasAtMost42, FortyTwoIsMet, DebugFormHas44}
use Rattle.meaning.proofs.Numbers.{le_or}
use Rattle.meaning.proofs.Digits.{decimal_some, few}

-- an exponent of at most four digits, with its mark
exponent-length : (a : ℕ) → a ≤ 12321 → length (exponent_text a) ≤ 5
exponent-length a h =
    ⊎_elim
    (λ g. rw (lt-ltb 6177 a g) (omega (arith, few (a - 6177) 3 (omega arith))))
    (λ g. ⊎_elim
    (λ k. rw (le-ltb 6177 a (omega arith), lt-ltb a 6177 (omega arith)) (omega (arith, few (6177 - a) 3 (omega arith))))
    (λ k. rw (le-ltb 6177 a (omega arith), le-ltb a 6177 (omega arith)) (omega (arith, few 0 0 (omega arith))))
    (le_or (a + 1) 6177))
    (le_or 6178 a)

module _ (ds : List ℕ) (e : ℕ) (some : 1 ≤ length ds) (few : length ds ≤ 34) (h : e ≤ 12287) where
  exponential-length : length (exponential ds e) ≤ 41
  exponential-length =
      let x = exponent-length (e + length ds) (omega arith) in
      ⊎_elim
      (λ g. rw (lt-ltb 1 (length ds) g) (simp (length-append, length-take, length-drop) (omega arith)))
      (λ g. rw (le-ltb 1 (length ds) (omega arith)) (simp (length-append, length-take) (omega arith)))
      (le_or 2 (length ds))

  plain-length : e ≤ 6176 → 6171 ≤ e + length ds → length (plain ds (6176 - e)) ≤ 41
  plain-length p q =
      ⊎_elim
      (λ z. rw (eq-eqb (6176 - e) 0 (omega arith)) (omega arith))
      (λ z. ⊎_elim
      (λ l. rw (ne_eqb (6176 - e) 0 (λ f. omega arith), le-leb (length ds) (6176 - e) l) (simp (length-append, length-replicate) (omega arith)))
      (λ l. rw (ne_eqb (6176 - e) 0 (λ f. omega arith), lt-leb (length ds) (6176 - e) l) (simp (length-append, length-take, length-drop) (omega arith)))
      (le_or (length ds) (6176 - e)))
      (le_or 6176 e)

  magnitude-length : length (magnitude ds e) ≤ 41
  unfolding magnitude
  magnitude-length =
      ⊎_elim
      (λ p. ⊎_elim
      (λ q. rw (le-leb e 6176 p, le-leb 6171 (e + length ds) q) (plain-length p q))
      (λ q. rw (le-leb e 6176 p, lt-leb 6171 (e + length ds) q) exponential-length)
      (le_or 6171 (e + length ds)))
      (λ p. rw (lt-leb e 6176 p) exponential-length)
      (le_or e 6176)

signed-length : (s : Bool) (t : List ℕ) → length t ≤ 41 → length (signed s t) ≤ 42
signed-length true t h = omega arith
signed-length false t h = omega arith

pub text_has_at_most_42 : TextHasAtMost42
unfolding write_text bytes
text_has_at_most_42 (nan s q) h = omega arith
text_has_at_most_42 (infinity s) h = signed-length s (bytes "Infinity") (omega arith)
text_has_at_most_42 (finite s e c) h =
    signed-length s (magnitude (decimal c) e) (magnitude-length (decimal c) e (decimal_some c h.1) (few c 33 h.1) h.0)

pub forty_two_is_met : FortyTwoIsMet
unfolding write_text magnitude decimal digits_before
forty_two_is_met = (refl, refl)

pub length-hexes : (s : List ℕ) → length (hexes s) ≡ 2 * length s
unfolding hexes
length-hexes [] = refl
length-hexes (b ∷ s) = omega (arith, length-hexes s)

pub debug_form_has_44 : DebugFormHas44
unfolding debug_text bytes
debug_form_has_44 s h = simp length-append (omega (arith, length-hexes s))
