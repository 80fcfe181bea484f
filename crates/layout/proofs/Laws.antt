-- Laws of the 128 bits as four limbs and as sixteen bytes.
use mathlib.Core.Path.{◌≡◌, refl, sym, ap, subst, ◌∙◌}
use mathlib.Core.Logic.{⊎_elim}
use mathlib.Core.Bool.{Bool}
use mathlib.Core.List.{List, [], ◌∷◌}
use Prim.Native.Nat.{ℕ, zero, suc, ◌+◌, ◌*◌, ◌/◌, ◌%◌, ◌^◌, ◌<◌, ◌≤◌}
use native.Mathlib.Nat.{div-one, zero-add, div-div-eq-div-mul}
use native.Mathlib.Omega.{arith}
use borrow.Author.Tests.{eq-eqb, ne_eqb, le-leb, lt-leb}
use lib.Arith.{digits_div, digits_mod}
use lib.Dec.{eqb, leb}
use lib.ListN.{length, get_or}
use lib.Pow.{shr-shr, mod-pow-add}
use mir.Syntax.{w8, w32, w64}
use mir.Val.{Fits}
use Rattle.std.specs.Int.{from_le_bytes, to_le_bytes}
use Rattle.meaning.specs.Decimal.{InRange}
use Rattle.meaning.specs.Decimal.Decimal.{nan, infinity, finite}
use Rattle.meaning.specs.Layout.{stored, bytes_of, or_zero, decode, encode, bit_of}
use Rattle.meaning.specs.Bits.{bit}
use Rattle.meaning.proofs.Numbers.{le_or}
use Rattle.meaning.proofs.Fields.{encodes_finite, decodes_nan, decodes_infinity, decodes_second, decodes_first}
use Rattle.limbs.specs.Value.{value}
use Rattle.limbs.proofs.Laws.{value_four}
use Rattle.layout.specs.Fields.{said, said_by}
use Rattle.layout.specs.declared.Fields.{Fields}
use Rattle.layout.specs.declared.Kind.{Kind}
use Rattle.layout.specs.declared.Kind.TheVariants.{Finite}

-- ---- bytes and limbs

-- a list of n elements, element by element
abbrev pub tab : ℕ → (ℕ → ℕ) → List ℕ
tab zero f = []
tab (suc n) f = f zero ∷ tab n (λ (k : ℕ). f (suc k))

tab_all : (b : List ℕ) → b ≡ tab (length b) (λ (k : ℕ). get_or b k 0)
tab_all [] = refl
tab_all (x ∷ xs) = ap (λ (l : List ℕ). x ∷ l) (tab_all xs)

pub listed : (n : ℕ) (b : List ℕ) → length b ≡ n → b ≡ tab n (λ (k : ℕ). get_or b k 0)
listed n b l = tab_all b ∙ ap (λ (m : ℕ). tab m (λ (k : ℕ). get_or b k 0)) l

-- one half is eight bytes
abbrev eight : ℕ → ℕ → ℕ → ℕ → ℕ → ℕ → ℕ → ℕ → ℕ
eight a b c d e f g h = a + 256 * (b + 256 * (c + 256 * (d + 256 * (e + 256 * (f + 256 * (g + 256 * h))))))

pub le_eight : (a b c d e f g h : ℕ) → from_le_bytes w64 (a ∷ b ∷ c ∷ d ∷ e ∷ f ∷ g ∷ h ∷ []) ≡ eight a b c d e f g h
le_eight a b c d e f g h = omega arith

two_words : (a b c d e f g h : ℕ) → from_le_bytes w32 (a ∷ b ∷ c ∷ d ∷ []) + 2 ^ 32 * from_le_bytes w32 (e ∷ f ∷ g ∷ h ∷ []) ≡ eight a b c d e f g h
two_words a b c d e f g h = omega arith

half_step : (r m n a b c d e f g h : ℕ) → r ≡ eight a b c d e f g h → m ≡ n → r + 2 ^ 64 * m ≡ eight a b c d e f g (h + 256 * n)
half_step r m n a b c d e f g h p q = omega arith

half_fits : {a b c d e f g h : ℕ} → Fits w8 a → Fits w8 b → Fits w8 c → Fits w8 d → Fits w8 e → Fits w8 f → Fits w8 g →
    Fits w8 h → eight a b c d e f g h < 2 ^ 64
half_fits p q r s t u v w = omega arith

lower_of : (n r m : ℕ) → r < 2 ^ 64 → r + 2 ^ 64 * m ≡ n → r ≡ n % 2 ^ 64
lower_of n r m f e = omega arith

upper_of : (n l r m : ℕ) → l < 2 ^ 64 → l + 2 ^ 64 * m ≡ n → r + 2 ^ 64 * 0 ≡ m → r ≡ n / 2 ^ 64
upper_of n l r m f e g = omega arith

-- the halves of sixteen bytes
module _ (b : List ℕ) (l : length b ≡ 16) (f : (i : ℕ) → Fits w8 (get_or b i 0)) (r : ℕ) where
  pub lower_half : r ≡ eight (get_or b 0 0) (get_or b 1 0) (get_or b 2 0) (get_or b 3 0) (get_or b 4 0) (get_or b 5 0) (get_or b 6 0) (get_or b 7 0) → r ≡ stored b % 2 ^ 64
  unfolding stored
  lower_half e =
      lower_of (stored b) r _ (rw e (half_fits (f 0) (f 1) (f 2) (f 3) (f 4) (f 5) (f 6) (f 7)))
      (half_step r _ _ _ _ _ _ _ _ _ _ e refl ∙ sym (ap stored (listed 16 b l)))

  pub upper_half : r ≡ eight (get_or b 8 0) (get_or b 9 0) (get_or b 10 0) (get_or b 11 0) (get_or b 12 0) (get_or b 13 0) (get_or b 14 0) (get_or b 15 0) →
      r ≡ stored b / 2 ^ 64
  unfolding stored
  upper_half e =
      upper_of (stored b) _ r _ (half_fits (f 0) (f 1) (f 2) (f 3) (f 4) (f 5) (f 6) (f 7))
      (half_step _ _ _ _ _ _ _ _ _ _ _ refl refl ∙ sym (ap stored (listed 16 b l)))
      (half_step r 0 0 _ _ _ _ _ _ _ _ e refl)

  -- and the upper one as two limbs
  pub upper_limbs : (y z : ℕ) → y ≡ from_le_bytes w32 (get_or b 8 0 ∷ get_or b 9 0 ∷ get_or b 10 0 ∷ get_or b 11 0 ∷ []) →
      z ≡ from_le_bytes w32 (get_or b 12 0 ∷ get_or b 13 0 ∷ get_or b 14 0 ∷ get_or b 15 0 ∷ []) → r ≡ y + 2 ^ 32 * z → r ≡ stored b / 2 ^ 64
  upper_limbs y z e f g = upper_half (g ∙ rw (e, f) (two_words _ _ _ _ _ _ _ _))

-- four limbs of two halves
pub of_halves : (n l y z : ℕ) → l ≡ n % 2 ^ 64 → y + 2 ^ 32 * z ≡ n / 2 ^ 64 → l % 2 ^ 32 + 2 ^ 32 * (l / 2 ^ 32 + 2 ^ 32 * (y + 2 ^ 32 * (z + 0))) ≡ n
of_halves n l y z e f = omega arith

-- the four bytes of a limb, and those of what stands above it
four_bytes : (x n k : ℕ) (r : List ℕ) → Fits w32 x → r ≡ bytes_of k n → x % 256 ∷ x / 256 % 256 ∷ x / 65536 % 256 ∷ x / 16777216 % 256 ∷ r ≡ bytes_of (suc (suc (suc (suc k)))) (x + 2 ^ 32 * n)
unfolding bytes_of
four_bytes x n k r h e =
    let b1 : (x + 2 ^ 32 * n) / 256 ≡ x / 256 + 2 ^ 24 * n = omega arith in
    let b2 : (x / 256 + 2 ^ 24 * n) / 256 ≡ x / 65536 + 2 ^ 16 * n = rw (← div-div-eq-div-mul x 256 256) (omega arith) in
    let b3 : (x / 65536 + 2 ^ 16 * n) / 256 ≡ x / 16777216 + 256 * n = rw (← div-div-eq-div-mul x 65536 256) (omega arith) in
    let b4 : (x / 16777216 + 256 * n) / 256 ≡ n = omega arith in
    let m0 : (x + 2 ^ 32 * n) % 256 ≡ x % 256 = omega arith in
    let m1 : (x / 256 + 2 ^ 24 * n) % 256 ≡ x / 256 % 256 = omega arith in
    let m2 : (x / 65536 + 2 ^ 16 * n) % 256 ≡ x / 65536 % 256 = omega arith in
    let m3 : (x / 16777216 + 256 * n) % 256 ≡ x / 16777216 % 256 = omega arith in
    rw (b1, b2, b3, b4, m0, m1, m2, m3, e)

pub limb_bytes : (b : List ℕ) (x n k : ℕ) (r : List ℕ) → b ≡ to_le_bytes w32 x → Fits w32 x → r ≡ bytes_of k n →
    get_or b 0 0 ∷ get_or b 1 0 ∷ get_or b 2 0 ∷ get_or b 3 0 ∷ r ≡ bytes_of (suc (suc (suc (suc k)))) (x + 2 ^ 32 * n)
limb_bytes b x n k r e h f = rw e (four_bytes x n k r h f)

-- ---- the highest limb

low_17 : (t : ℕ) → t % 2 ^ 31 % 2 ^ 17 ≡ t % 2 ^ 17
low_17 t = omega arith

module _ (w : List ℕ) (l : length w ≡ 4) (f : (i : ℕ) → Fits w32 (get_or w i 0)) where
  split : value w ≡ get_or w 3 0 * 2 ^ 96 + (get_or w 0 0 + 2 ^ 32 * (get_or w 1 0 + 2 ^ 32 * get_or w 2 0))
  split = value_four w l ∙ omega arith

  small : get_or w 0 0 + 2 ^ 32 * (get_or w 1 0 + 2 ^ 32 * get_or w 2 0) < 2 ^ 96
  small = omega (arith, f 0, f 1, f 2)

  top : value w / 2 ^ 96 ≡ get_or w 3 0
  top = ap (λ (n : ℕ). n / 2 ^ 96) split ∙ digits_div (get_or w 3 0) small

  top_bits : (j : ℕ) → value w / 2 ^ (96 + j) ≡ get_or w 3 0 / 2 ^ j
  top_bits j = sym (shr-shr (value w) 96 j) ∙ ap (λ (n : ℕ). n / 2 ^ j) top

  -- the lowest 113 bits: three limbs, and 17 bits of the highest without its sign
  pub low_bits : value (get_or w 0 0 ∷ get_or w 1 0 ∷ get_or w 2 0 ∷ get_or w 3 0 % 2 ^ 31 % 2 ^ 17 ∷ []) ≡ value w % 2 ^ 113
  low_bits =
      rw (low_17 (get_or w 3 0)) (sym (mod-pow-add (value w) 17 96 ∙ rw (top, split, digits_mod (get_or w 3 0) small) (omega arith)))

-- a test of a bit and a comparison that say the same
same_test : (a b m n : ℕ) → (a ≡ b → m ≤ n) → (m ≤ n → a ≡ b) → eqb a b ≡ leb m n
same_test a b m n f g =
    ⊎_elim (λ h. rw (eq-eqb a b (g h), le-leb m n h)) (λ h. rw (ne_eqb a b (λ e. omega (arith, f e)), lt-leb m n h)) (le_or m n)

-- t is the highest limb of the number n
pub record TopLimb (n t : ℕ) : Type 0 where
  pub fits : Fits w32 t
  pub top : (j : ℕ) → n / 2 ^ (96 + j) ≡ t / 2 ^ j

pub top_limb : (w : List ℕ) → length w ≡ 4 → ((i : ℕ) → Fits w32 (get_or w i 0)) → TopLimb (value w) (get_or w 3 0)
top_limb w l f = record { fits = f 3; top = top_bits w l f }

-- decode, case by case, by the highest limb t, and by t % 2^31, that limb without its sign
module _ {n t : ℕ} (h : TopLimb n t) where
  sign : bit n 0 ≡ leb (2 ^ 31) t
  sign = rw (h.top 31) (same_test (t / 2 ^ 31 % 2) 1 (2 ^ 31) t (λ e. omega arith) (λ k. omega arith))

  signalling : 0x7c000000 ≤ t % 2 ^ 31 → bit n 6 ≡ leb 0x7e000000 (t % 2 ^ 31)
  signalling k = rw (h.top 25) (same_test (t / 2 ^ 25 % 2) 1 0x7e000000 (t % 2 ^ 31) (λ e. omega arith) (λ g. omega arith))

  pub decode_nan : 0x7c000000 ≤ t % 2 ^ 31 → nan (leb (2 ^ 31) t) (leb 0x7e000000 (t % 2 ^ 31)) ≡ decode n
  decode_nan k = sym (decodes_nan n (rw (h.top 27) (omega arith)) (rw (h.top 26) (omega arith)) ∙ rw (sign, signalling k))

  pub decode_infinity : t % 2 ^ 31 < 0x7c000000 → 0x78000000 ≤ t % 2 ^ 31 → infinity (leb (2 ^ 31) t) ≡ decode n
  decode_infinity g k = sym (decodes_infinity n (rw (h.top 27) (omega arith)) (rw (h.top 26) (λ e. omega arith)) ∙ rw sign)

  pub decode-second : t % 2 ^ 31 < 0x78000000 → 0x60000000 ≤ t % 2 ^ 31 → finite (leb (2 ^ 31) t) (t % 2 ^ 31 / 2 ^ 15 % 2 ^ 14) 0 ≡ decode n
  decode-second g k =
      let e : t / 2 ^ 15 % 2 ^ 14 ≡ t % 2 ^ 31 / 2 ^ 15 % 2 ^ 14 = omega arith in
      sym (decodes_second n (rw (h.top 27) (λ e. omega arith)) (rw (h.top 29) (omega arith)) ∙ rw (sign, h.top 15, e))

  pub decode_first : t % 2 ^ 31 < 0x60000000 → (c : ℕ) → c ≡ or_zero (n % 2 ^ 113) → finite (leb (2 ^ 31) t) (t % 2 ^ 31 / 2 ^ 17) c ≡ decode n
  decode_first k c f =
      let e : t / 2 ^ 17 % 2 ^ 14 ≡ t % 2 ^ 31 / 2 ^ 17 = omega arith in
      sym (decodes_first n (rw (h.top 27) (λ e. omega arith)) (rw (h.top 29) (λ e. omega arith)) ∙ rw (sign, h.top 17, e, div-one, f))

-- ---- packing

-- four limbs, by the highest
spread : (a b c t : ℕ) → value (a ∷ b ∷ c ∷ t ∷ []) ≡ (a + 2 ^ 32 * (b + 2 ^ 32 * c)) + 2 ^ 96 * t
spread a b c t = omega arith

-- the fields of the highest limb, in the whole number; Q is 2^110 seen from there
lift_special : (P Q s g : ℕ) → 2 ^ 14 * P ≡ Q → P * (s * 2 ^ 31 + g * 2 ^ 14) ≡ s * (2 ^ 17 * Q) + g * Q + 0
lift_special P Q s g e = rw (← e) (omega arith)

lift_finite : (P s e d : ℕ) → P * (s * 2 ^ 31 + e * 2 ^ 17 + d) ≡ (s * 2 ^ 14 + e) * (2 ^ 17 * P) + P * d
lift_finite P s e d = omega arith

pub pack_special : (s g t : ℕ) → t ≡ s * 2 ^ 31 + g * 2 ^ 14 → value (0 ∷ 0 ∷ 0 ∷ t ∷ []) ≡ s * 2 ^ 127 + g * 2 ^ 110 + 0
pack_special s g t e = spread 0 0 0 t ∙ zero-add (2 ^ 96 * t) ∙ ap (λ (n : ℕ). 2 ^ 96 * n) e ∙ lift_special (2 ^ 96) (2 ^ 110) s g refl

regroup : (l x y : ℕ) → l + (x + y) ≡ x + (l + y)
regroup l x y = omega arith

pub pack_finite : (s : Bool) (e a b c d t : ℕ) → t ≡ bit_of s * 2 ^ 31 + e * 2 ^ 17 + d → value (a ∷ b ∷ c ∷ t ∷ []) ≡ encode (finite s e (value (a ∷ b ∷ c ∷ d ∷ [])))
pack_finite s e a b c d t f =
    spread a b c t
    ∙ ap (λ (n : ℕ). a + 2 ^ 32 * (b + 2 ^ 32 * c) + n) (ap (λ (n : ℕ). 2 ^ 96 * n) f ∙ lift_finite (2 ^ 96) (bit_of s) e d)
    ∙ regroup (a + 2 ^ 32 * (b + 2 ^ 32 * c)) ((bit_of s * 2 ^ 14 + e) * 2 ^ 113) (2 ^ 96 * d)
    ∙ ap (λ (n : ℕ). (bit_of s * 2 ^ 14 + e) * 2 ^ 113 + n) (sym (spread a b c d))
    ∙ sym (encodes_finite s e (value (a ∷ b ∷ c ∷ d ∷ [])))

-- what fields of a known kind say
pub of_kind : (f : Fields) {k : Kind} → f.kind ≡ k → said_by k f.negative f.exponent (value f.coefficient) ≡ said f
unfolding said
of_kind f e = sym (ap (λ (k : Kind). said_by k f.negative f.exponent (value f.coefficient)) e)

-- what is asked of a finite value, and the same of its limbs
pub finite_range : (f : Fields) → f.kind ≡ Finite → InRange (said f) → (f.exponent ≤ 12287) × (value f.coefficient < 10 ^ 34)
finite_range f e h = subst InRange (sym (of_kind f e)) h

pub limbs_range : (f : Fields) → f.kind ≡ Finite → InRange (said f) → length f.coefficient ≡ 4 → (f.exponent < 2 ^ 14) × (get_or f.coefficient 3 0 < 2 ^ 17)
limbs_range f e h l = omega (arith, finite_range f e h, value_four f.coefficient l)
