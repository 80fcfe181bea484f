-- Laws of hex digits: a line that is read digit by digit, and two digits a byte.
use Rattle.std.proofs.Common.{◌≡◌, refl, sym, ap, ◌∙◌, Bool, true, false, ◌&&◌, true≢false, List, [], ◌∷◌, ℕ, zero, suc, ◌+◌, ◌*◌, ◌≤◌, ◌<◌, add-one, arith, eqb, ltb, length, take, drop, get_or, set, drop_of_length-le, take-suc, take-suc-set, take_all, drop-cons, lt-ltb, ltb-true, eq-eqb}
use Rattle.std.proofs.lemmas.Bool.{false_from_ne_true}
use Rattle.meaning.specs.Stream.{hex_value, all_hex, unhex}

-- ---- digit by digit

first_true : (a b : Bool) → (a && b) ≡ true → a ≡ true
first_true true b e = refl
first_true false b e = absurd (true≢false (sym e))

second_true : (a b : Bool) → (a && b) ≡ true → b ≡ true
second_true true b e = e
second_true false b e = absurd (true≢false (sym e))

module _ (s : List ℕ) (i : ℕ) (h : i < length s) where
  next : all_hex (drop i s) ≡ (ltb (hex_value (get_or s i 0)) 16 && all_hex (drop (i + 1) s))
  unfolding all_hex
  next = rw (add-one, drop-cons s i 0 h)

  pub hex_here : hex_value (get_or s i 0) < 16 → all_hex (drop i s) ≡ all_hex (drop (i + 1) s)
  hex_here l = next ∙ rw (lt-ltb (hex_value (get_or s i 0)) 16 l)

  pub hex_stops : (hex_value (get_or s i 0) < 16 → ⊥) → all_hex (drop i s) ≡ false
  hex_stops n = next ∙ rw (false_from_ne_true (ltb (hex_value (get_or s i 0)) 16) (λ e. n (ltb-true (hex_value (get_or s i 0)) 16 e)))

pub hex_all : (s : List ℕ) (i : ℕ) → length s ≤ i → all_hex (drop i s) ≡ true
unfolding all_hex
hex_all s i h = rw (drop_of_length-le s {i = i} h)

pub hex_digit_lem : (s : List ℕ) (i : ℕ) → all_hex s ≡ true → i < length s → hex_value (get_or s i 0) < 16
unfolding all_hex
hex_digit_lem [] i e h = absurd (omega arith)
hex_digit_lem (b ∷ s) zero e h = ltb-true (hex_value b) 16 (first_true (ltb (hex_value b) 16) (all_hex s) e)
hex_digit_lem (b ∷ s) (suc i) e h = hex_digit_lem s i (second_true (ltb (hex_value b) 16) (all_hex s) e) (omega arith)

-- the two digits of a byte
pub hex_pair : (s : List ℕ) (i : ℕ) → 2 * i + 1 < length s → hex_value (get_or s (2 * i) 0) < 16 → hex_value (get_or s (2 * i + 1) 0) < 16 → all_hex (drop (2 * (i + 1)) s) ≡ all_hex (drop (2 * i) s)
hex_pair s i h high low =
    let e : 2 * (i + 1) ≡ 2 * i + 1 + 1 = omega arith in
    ap (λ (n : ℕ). all_hex (drop n s)) e
    ∙ sym (hex_here s (2 * i) (omega arith) high ∙ hex_here s (2 * i + 1) h low)

-- a line of 32 digits, and one that is none
module _ (s : List ℕ) where
  pub is_hex : length s ≡ 32 → all_hex s ≡ true → (eqb (length s) 32 && all_hex s) ≡ true
  is_hex e h = rw (eq-eqb (length s) 32 e, h)

  pub not_hex : all_hex s ≡ false → (eqb (length s) 32 && all_hex s) ≡ true → ⊥
  not_hex e h = true≢false (sym (second_true (eqb (length s) 32) (all_hex s) h) ∙ e)

-- ---- two digits a byte

pub length-unhex : (n : ℕ) (s : List ℕ) → length s ≡ 2 * n → length (unhex s) ≡ n
unfolding unhex
length-unhex zero [] e = refl
length-unhex zero (a ∷ s) e = absurd (omega arith)
length-unhex (suc n) [] e = absurd (omega arith)
length-unhex (suc n) (a ∷ []) e = absurd (omega arith)
length-unhex (suc n) (a ∷ b ∷ s) e = ap suc (length-unhex n s (omega arith))

unhex_at : (s : List ℕ) (i : ℕ) → 2 * i + 1 < length s → get_or (unhex s) i 0 ≡ 16 * hex_value (get_or s (2 * i) 0) + hex_value (get_or s (2 * i + 1) 0)
unfolding unhex
unhex_at [] i h = absurd (omega arith)
unhex_at (a ∷ []) i h = absurd (omega arith)
unhex_at (a ∷ b ∷ s) zero h = refl
unhex_at (a ∷ b ∷ s) (suc i) h =
    let e : 2 * suc i ≡ suc (suc (2 * i)) = omega arith in
    let f : 2 * suc i + 1 ≡ suc (suc (2 * i + 1)) = omega arith in
    unhex_at s i (omega arith) ∙ rw (f, e)

-- how far a loop has come: the first i bytes stand
module _ (s b : List ℕ) (i : ℕ) (digits : length s ≡ 32) (bytes : length b ≡ 16) (so_far : take i b ≡ take i (unhex s)) where
  pub next_byte : i < 16 → take (i + 1) (set b i (16 * hex_value (get_or s (2 * i) 0) + hex_value (get_or s (2 * i + 1) 0))) ≡ take (i + 1) (unhex s)
  next_byte h =
      rw (add-one i, take-suc-set b i _ (omega arith), so_far, ← unhex_at s i (omega arith), ← take-suc (unhex s) i 0 (omega (arith, length-unhex 16 s digits)))

  pub all_bytes : 16 ≤ i → b ≡ unhex s
  all_bytes h =
      sym (take_all i b (omega arith)) ∙ so_far ∙ take_all i (unhex s) (omega (arith, length-unhex 16 s digits))
