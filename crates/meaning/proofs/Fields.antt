-- The two accounts of the 128 bits agree, and encode and decode undo each other.
use mathlib.Core.Path.{◌≡◌, refl, sym, ap, ◌∙◌}
use mathlib.Core.Logic.{⊎_elim}
use mathlib.Core.Bool.{Bool, true, false, cond, true≢false}
use Prim.Native.Nat.{ℕ, suc, ◌+◌, ◌*◌, ◌/◌, ◌%◌, ◌^◌, ◌≤◌, ◌<◌}
use native.Mathlib.Nat.{mul-le-mul_right, add-zero, div-one, mod-lt, div-add-mod'}
use native.Mathlib.Omega.{arith}
use lib.Dec.{eqb, lit<}
use lib.Pow.{field, mod-mod-pow, mod-pow-add, shr-shr, shr_lt}
use lib.Arith.{digits_div, digits_mod}
use borrow.Author.Tests.{eq-eqb, ne_eqb, eqb-true, lt-ltb, le-ltb}
use Rattle.meaning.specs.Decimal.{Decimal, InRange}
use Rattle.meaning.specs.Decimal.Decimal.{nan, infinity, finite}
use Rattle.meaning.specs.Layout.{or_zero, decode, encode, bit_of}
use Rattle.meaning.specs.Bits.{bits, bit, second, decode_bits, canonical}
use Rattle.meaning.specs.Promises.{TwoAccountsAgree, DecodesWhatWasEncoded, EncodesExactlyTheCanonical}
use Rattle.meaning.proofs.Numbers.{le_or, eq_or}

-- ---- the standard's G and T are bits 1 to 17 and 18 to 127

-- the c bits of G above its k lowest
g_bits : (n i c k : ℕ) → n / 2 ^ 110 % 2 ^ (i + c + k) / 2 ^ k % 2 ^ c ≡ n / 2 ^ (110 + k) % 2 ^ c
g_bits n i c k =
    ap (λ (m : ℕ). m % 2 ^ c) (field (n / 2 ^ 110) (i + c) k)
    ∙ mod-mod-pow (n / 2 ^ 110 / 2 ^ k) i c
    ∙ ap (λ (m : ℕ). m % 2 ^ c) (shr-shr n 110 k)

-- what stands above bit 127 - a, from what stands above bit 127 - k
above : (n k j : ℕ) → n / 2 ^ (k + j) ≡ n / 2 ^ k / 2 ^ j
above n k j = sym (shr-shr n k j)

second_form : (P g t u : ℕ) → u ≡ g * P + t → (0b1000 + g) * P + t ≡ 0b100 * (2 * P) + u
second_form P g t u e = omega arith

-- G0 to G4 are bits 1 to 4 and bit 5
five_bits : (m : ℕ) → m % 2 ^ 5 ≡ 2 * (m / 2 % 2 ^ 4) + m % 2
five_bits m = omega arith

-- 11111 and 11110 are 1111 with bit 5, set or clear
by_bit_5 : {A : Type 0} (g a b : ℕ) (x y z : A) → g ≡ 2 * a + b → b < 2 → cond (eqb g 0b11111) x (cond (eqb g 0b11110) y z) ≡ cond (eqb a 0b1111) (cond (eqb b 1) x y) z
by_bit_5 g a b x y z e h =
    ⊎_elim
    (λ p. ⊎_elim
    (λ q. simp (eq-eqb g 0b11111 (omega arith), eq-eqb a 0b1111 p, eq-eqb b 1 q))
    (λ q. simp (ne_eqb g 0b11111 (λ f. omega arith), eq-eqb g 0b11110 (omega arith), eq-eqb a 0b1111 p, ne_eqb b 1 q))
    (eq_or b 1))
    (λ p. simp (ne_eqb g 0b11111 (λ f. omega arith), ne_eqb g 0b11110 (λ f. omega arith), ne_eqb a 0b1111 p))
    (eq_or a 0b1111)

module _ (n : ℕ) where
  combination : n / 2 ^ 122 % 2 ^ 5 ≡ 2 * bits n 1 4 + bits n 5 5
  combination = rw (above n 122 1) (five_bits (n / 2 ^ 122))

  fields : decode n ≡ cond (eqb (n / 2 ^ 122 % 2 ^ 5) 0b11111) (nan (bit n 0) (bit n 6)) (cond (eqb (n / 2 ^ 122 % 2 ^ 5) 0b11110) (infinity (bit n 0)) (cond (second n) (finite (bit n 0) (bits n 3 16) (or_zero (0b100 * 2 ^ 111 + bits n 17 127))) (finite (bit n 0) (bits n 1 14) (or_zero (bits n 15 127)))))
  unfolding decode
  fields =
      rw (g_bits n 0 5 12, g_bits n 5 1 11, g_bits n 0 2 15, g_bits n 2 14 1, g_bits n 16 1 0, g_bits n 0 14 3, g_bits n 14 3 0, ← mod-pow-add n 3 110, second_form (2 ^ 110) _ _ _ (mod-pow-add n 1 110))
      (simp div-one)

pub two_accounts_agree : TwoAccountsAgree
unfolding decode_bits
two_accounts_agree n =
    fields n ∙ by_bit_5 (n / 2 ^ 122 % 2 ^ 5) (bits n 1 4) (bits n 5 5) _ _ _ (combination n) (mod-lt (n / 2 ^ 122) (lit< tt))

-- ---- decode_bits, case by case

module _ (n : ℕ) where
  pub decodes_nan : bits n 1 4 ≡ 0b1111 → bits n 5 5 ≡ 1 → decode n ≡ nan (bit n 0) (bit n 6)
  unfolding decode_bits
  decodes_nan e f = two_accounts_agree n ∙ simp (eq-eqb _ _ e, eq-eqb _ _ f)

  pub decodes_infinity : bits n 1 4 ≡ 0b1111 → (bits n 5 5 ≡ 1 → ⊥) → decode n ≡ infinity (bit n 0)
  unfolding decode_bits
  decodes_infinity e f = two_accounts_agree n ∙ simp (eq-eqb _ _ e, ne_eqb _ _ f)

  pub decodes_second : (bits n 1 4 ≡ 0b1111 → ⊥) → bits n 1 2 ≡ 0b11 → decode n ≡ finite (bit n 0) (bits n 3 16) 0
  unfolding decode_bits
  decodes_second e f =
      two_accounts_agree n
      ∙ simp (ne_eqb _ _ e, eq-eqb _ _ f, le-ltb (0b100 * 2 ^ 111 + bits n 17 127) (10 ^ 34) (omega arith))

  pub decodes_first : (bits n 1 4 ≡ 0b1111 → ⊥) → (bits n 1 2 ≡ 0b11 → ⊥) → decode n ≡ finite (bit n 0) (bits n 1 14) (or_zero (bits n 15 127))
  unfolding decode_bits
  decodes_first e f = two_accounts_agree n ∙ simp (ne_eqb _ _ e, ne_eqb _ _ f)

-- which of the four forms a number has
pub data Form (n : ℕ) : Type 0 where
  is_nan : bits n 1 4 ≡ 0b1111 → bits n 5 5 ≡ 1 → Form n
  is_infinity : bits n 1 4 ≡ 0b1111 → (bits n 5 5 ≡ 1 → ⊥) → Form n
  is_second : (bits n 1 4 ≡ 0b1111 → ⊥) → bits n 1 2 ≡ 0b11 → Form n
  is_first : (bits n 1 4 ≡ 0b1111 → ⊥) → (bits n 1 2 ≡ 0b11 → ⊥) → Form n

pub form : (n : ℕ) → Form n
form n =
    ⊎_elim
    (λ e. ⊎_elim (λ f. is_nan e f) (λ f. is_infinity e f) (eq_or (bits n 5 5) 1))
    (λ e. ⊎_elim (λ f. is_second e f) (λ f. is_first e f) (eq_or (bits n 1 2) 0b11))
    (eq_or (bits n 1 4) 0b1111)

-- ---- what is decoded is in range

-- u is what stands above bit 16, and above bit 14
second-exponent : (u : ℕ) → (u / 2 ^ 12 % 16 ≡ 15 → ⊥) → u / 2 ^ 14 % 4 ≡ 3 → u % 2 ^ 14 ≤ 12287
second-exponent u e f = ⊎_elim (λ h. h) (λ h. absurd (e (omega arith))) (le_or (u % 2 ^ 14) 12287)

first_exponent : (u : ℕ) → (u / 2 ^ 12 % 4 ≡ 3 → ⊥) → u % 2 ^ 14 ≤ 12287
first_exponent u f = ⊎_elim (λ h. h) (λ h. absurd (f (omega arith))) (le_or (u % 2 ^ 14) 12287)

small_or_zero : (c : ℕ) → or_zero c < 10 ^ 34
small_or_zero c =
    ⊎_elim (λ h. rw (lt-ltb c (10 ^ 34) h) h) (λ h. rw (le-ltb c (10 ^ 34) (omega arith)) (lit< tt)) (le_or (suc c) (10 ^ 34))

pub decodes_in_range : (n : ℕ) → InRange (decode n)
decodes_in_range n =
    elim (form n) as (λ f. InRange (decode n)) [
      | is_nan e f ↦ rw (decodes_nan n e f) tt
      | is_infinity e f ↦ rw (decodes_infinity n e f) tt
      | is_second e f ↦ rw (decodes_second n e f)
          (second-exponent (n / 2 ^ 111) (rw (above n 111 12) at e) (rw (above n 111 14) at f), lit< tt)
      | is_first e f ↦ rw (decodes_first n e f)
          (first_exponent (n / 2 ^ 113) (rw (above n 113 12) at f), small_or_zero (bits n 15 127))
    ]

-- ---- a finite value of the first form, from its parts: h is what stands above the coefficient

bit_is : (x : ℕ) → x < 2 → bit_of (eqb x 1) ≡ x
bit_is x h = ⊎_elim (λ e. rw (eq-eqb x 1 e) (sym e)) (λ e. rw (ne_eqb x 1 e) (omega arith)) (eq_or x 1)

is_bit : (s : Bool) → eqb (bit_of s) 1 ≡ s
is_bit true = refl
is_bit false = refl

small_bit : (s : Bool) → bit_of s < 2
small_bit true = omega arith
small_bit false = omega arith

regroup : (Q s e q r c : ℕ) → q * Q + r ≡ c → s * (2 ^ 17 * Q) + (e * 2 ^ 3 + q) * Q + r ≡ (s * 2 ^ 14 + e) * (2 ^ 3 * Q) + c
regroup Q s e q r c f = omega arith

pub encodes_finite : (s : Bool) (e c : ℕ) → encode (finite s e c) ≡ (bit_of s * 2 ^ 14 + e) * 2 ^ 113 + c
unfolding encode
encodes_finite s e c = regroup (2 ^ 110) (bit_of s) e (c / 2 ^ 110) (c % 2 ^ 110) c (div-add-mod' c (2 ^ 110))

below_113 : (c : ℕ) → c < 10 ^ 34 → c < 2 ^ 113
below_113 c h = omega arith

module _ (s e : ℕ) (hs : s < 2) (he : e ≤ 12287) where
  sign_of : (s * 2 ^ 14 + e) / 2 ^ 14 % 2 ≡ s
  sign_of = omega arith

  exponent_of : (s * 2 ^ 14 + e) % 2 ^ 14 ≡ e
  exponent_of = omega arith

  not_special : (s * 2 ^ 14 + e) / 2 ^ 10 % 16 ≡ 15 → ⊥
  not_special h = omega arith

  not_second : (s * 2 ^ 14 + e) / 2 ^ 12 % 4 ≡ 3 → ⊥
  not_second h = omega arith

-- the bits of an encoded finite value
record Parts (n : ℕ) (s : Bool) (e c : ℕ) : Type 0 where
  sign : bit n 0 ≡ s
  plain : bits n 1 4 ≡ 0b1111 → ⊥
  first : bits n 1 2 ≡ 0b11 → ⊥
  exponent : bits n 1 14 ≡ e
  coefficient : bits n 15 127 ≡ c

parts : (s : Bool) (e c : ℕ) → e ≤ 12287 → c < 10 ^ 34 → Parts (encode (finite s e c)) s e c
parts s e c he hc = go (encode (finite s e c)) (encodes_finite s e c)
  where
    h : ℕ
    h = bit_of s * 2 ^ 14 + e

    go : (n : ℕ) → n ≡ h * 2 ^ 113 + c → Parts n s e c
    go n f =
        let top : n / 2 ^ 113 ≡ h = ap (λ (m : ℕ). m / 2 ^ 113) f ∙ digits_div h (below_113 c hc) in
        record {
          sign = rw (above n 113 14, top, sign_of (bit_of s) e (small_bit s) he) (is_bit s);
          plain = rw (above n 113 10, top) (not_special (bit_of s) e (small_bit s) he);
          first = rw (above n 113 12, top) (not_second (bit_of s) e (small_bit s) he);
          exponent = rw top (exponent_of (bit_of s) e (small_bit s) he);
          coefficient = rw div-one (ap (λ (m : ℕ). m % 2 ^ 113) f ∙ digits_mod h (below_113 c hc));
        }

finite_back : (s : Bool) (e c : ℕ) → e ≤ 12287 → c < 10 ^ 34 → decode (encode (finite s e c)) ≡ finite s e c
finite_back s e c he hc =
    let p = parts s e c he hc in
    decodes_first (encode (finite s e c)) p.plain p.first ∙ rw (p.sign, p.exponent, p.coefficient, lt-ltb c (10 ^ 34) hc)

pub decodes_what_was_encoded : DecodesWhatWasEncoded
unfolding decode encode
decodes_what_was_encoded (nan true true) h = refl
decodes_what_was_encoded (nan true false) h = refl
decodes_what_was_encoded (nan false true) h = refl
decodes_what_was_encoded (nan false false) h = refl
decodes_what_was_encoded (infinity true) h = refl
decodes_what_was_encoded (infinity false) h = refl
decodes_what_was_encoded (finite s e c) h = finite_back s e c h.0 h.1

-- ---- what is encoded has 128 bits

below_twice : (B h c : ℕ) → h < 2 ^ 15 → c < B → h * B + c < 2 ^ 15 * B
below_twice B h c l g = omega (arith, mul-le-mul_right B l)

pub encodes_below : (v : Decimal) → InRange v → encode v < 2 ^ 128
unfolding encode
encodes_below (nan true true) h = lit< tt
encodes_below (nan true false) h = lit< tt
encodes_below (nan false true) h = lit< tt
encodes_below (nan false false) h = lit< tt
encodes_below (infinity true) h = lit< tt
encodes_below (infinity false) h = lit< tt
encodes_below (finite s e c) h =
    let b = small_bit s in
    let top : bit_of s * 2 ^ 14 + e < 2 ^ 15 = omega (arith, b, h.0) in
    rw (encodes_finite s e c) (below_twice (2 ^ 113) (bit_of s * 2 ^ 14 + e) c top (below_113 c h.1))

-- ---- which numbers come back as they were

nan_number : (Q m s q : ℕ) → m ≡ s * 64 + 62 + q → s * (2 ^ 17 * Q) + (0b11111 * 2 ^ 12 + q * 2 ^ 11) * Q + 0 ≡ m * (2 ^ 11 * Q)
nan_number Q m s q e = rw e (omega arith)

infinity_number : (Q m s : ℕ) → m ≡ s * 32 + 30 → s * (2 ^ 17 * Q) + 0b11110 * 2 ^ 12 * Q + 0 ≡ m * (2 ^ 12 * Q)
infinity_number Q m s e = rw e (omega arith)

nan_top : (m : ℕ) → m < 2 ^ 7 → m / 2 ^ 2 % 2 ^ 4 ≡ 15 → m / 2 ^ 1 % 2 ^ 1 ≡ 1 → m ≡ m / 2 ^ 6 % 2 * 64 + 62 + m % 2
nan_top m h e f = omega (arith, above m 1 1, above m 2 4)

infinity_top : (m : ℕ) → m < 2 ^ 6 → m / 2 ^ 1 % 2 ^ 4 ≡ 15 → (m % 2 ≡ 1 → ⊥) → m ≡ m / 2 ^ 5 % 2 * 32 + 30
infinity_top m h e f = omega arith

first_top : (h : ℕ) → h < 2 ^ 15 → h / 2 ^ 14 % 2 * 2 ^ 14 + h % 2 ^ 14 ≡ h
first_top h l = omega arith

-- nothing below the k lowest bits
only_top : (n k : ℕ) → n % 2 ^ k ≡ 0 → n / 2 ^ k * 2 ^ k ≡ n
only_top n k e = sym (add-zero _) ∙ ap (λ (r : ℕ). n / 2 ^ k * 2 ^ k + r) (sym e) ∙ div-add-mod' n (2 ^ k)

module _ (n : ℕ) (small : n < 2 ^ 128) where
  sign_bit : (k j : ℕ) → k + j ≡ 127 → bit_of (bit n 0) ≡ n / 2 ^ k / 2 ^ j % 2
  sign_bit k j e =
      bit_is (n / 2 ^ 127 % 2) (mod-lt (n / 2 ^ 127) (lit< tt))
      ∙ ap (λ (m : ℕ). m % 2) (ap (λ (i : ℕ). n / 2 ^ i) (sym e) ∙ above n k j)

  pub nan_kept : bits n 1 4 ≡ 0b1111 → bits n 5 5 ≡ 1 → bits n 7 127 ≡ 0 → encode (nan (bit n 0) (bit n 6)) ≡ n
  unfolding encode
  nan_kept e f z =
      rw (sign_bit 121 6 refl, bit_is (n / 2 ^ 121 % 2) (mod-lt (n / 2 ^ 121) (lit< tt)))
      (nan_number (2 ^ 110) (n / 2 ^ 121) _ _ (nan_top (n / 2 ^ 121) (shr_lt 7 121 small) (rw (above n 121 2) at e) (rw (above n 121 1) at f))
      ∙ only_top n 121 (rw div-one at z))

  pub infinity_kept : bits n 1 4 ≡ 0b1111 → (bits n 5 5 ≡ 1 → ⊥) → bits n 6 127 ≡ 0 → encode (infinity (bit n 0)) ≡ n
  unfolding encode
  infinity_kept e f z =
      rw (sign_bit 122 5 refl)
      (infinity_number (2 ^ 110) (n / 2 ^ 122) _ (infinity_top (n / 2 ^ 122) (shr_lt 6 122 small) (rw (above n 122 1) at e) f)
      ∙ only_top n 122 (rw div-one at z))

  pub first_kept : encode (finite (bit n 0) (bits n 1 14) (bits n 15 127)) ≡ n
  first_kept =
      encodes_finite (bit n 0) (bits n 1 14) (bits n 15 127)
      ∙ rw (sign_bit 113 14 refl, div-one, first_top (n / 2 ^ 113) (shr_lt 15 113 small)) (div-add-mod' n (2 ^ 113))

  comes_back : canonical n ≡ true → encode (decode n) ≡ n
  unfolding canonical
  comes_back k =
      elim (form n) as (λ f. encode (decode n) ≡ n) [
        | is_nan e f ↦ ap encode (decodes_nan n e f) ∙ nan_kept e f (eqb-true _ _ (simp (eq-eqb _ _ e, eq-eqb _ _ f) at k))
        | is_infinity e f ↦ ap encode (decodes_infinity n e f) ∙ infinity_kept e f (eqb-true _ _ (simp (eq-eqb _ _ e, ne_eqb _ _ f) at k))
        | is_second e f ↦ absurd (true≢false (sym (simp (ne_eqb _ _ e, eq-eqb _ _ f) at k)))
        | is_first e f ↦ ap encode (decodes_first n e f) ∙ rw (simp (ne_eqb _ _ e, ne_eqb _ _ f) at k) first_kept
      ]

finite_canonical : (s : Bool) (e c : ℕ) → e ≤ 12287 → c < 10 ^ 34 → canonical (encode (finite s e c)) ≡ true
unfolding canonical
finite_canonical s e c he hc =
    let p = parts s e c he hc in
    simp (ne_eqb _ _ p.plain, ne_eqb _ _ p.first, p.coefficient, lt-ltb c (10 ^ 34) hc)

encoded_canonical : (v : Decimal) → InRange v → canonical (encode v) ≡ true
unfolding canonical encode
encoded_canonical (nan true true) h = refl
encoded_canonical (nan true false) h = refl
encoded_canonical (nan false true) h = refl
encoded_canonical (nan false false) h = refl
encoded_canonical (infinity true) h = refl
encoded_canonical (infinity false) h = refl
encoded_canonical (finite s e c) h = finite_canonical s e c h.0 h.1

pub encodes_exactly_the_canonical : EncodesExactlyTheCanonical
encodes_exactly_the_canonical n small =
    (λ e. rw e at (encoded_canonical (decode n) (decodes_in_range n)), comes_back n small)
