-- Laws of the pieces of a text: their lengths, and what stands where.
use mathlib.Core.Path.{◌≡◌, refl, ap, ◌∙◌}
use mathlib.Core.Logic.{◌⊎◌, inl, inr, ⊎_elim}
use mathlib.Core.Bool.{Bool, true, false, and-false}
use mathlib.Core.List.{List, [], ◌∷◌, ◌++◌, append-nil}
use Prim.Native.Nat.{ℕ, ◌+◌, ◌-◌, ◌*◌, ◌/◌, ◌%◌, ◌^◌, ◌≤◌, ◌<◌}
use native.Mathlib.Numerals.{add-one}
use native.Mathlib.Omega.{arith}
use lib.Dec.{leb}
use lib.ListN.{length, take, set, get_or, replicate, length-append, length-drop, length-replicate}
use lib.Seq.{length-take-le, take-suc, take_all}
use borrow.Author.Tests.{lt-ltb, le-ltb, ne_eqb, le-leb, lt-leb}
use Rattle.meaning.specs.Reading.{bytes}
use Rattle.meaning.specs.Writing.{decimal, plain, magnitude, signed, hex_digit, hexes, debug_text}
use Rattle.meaning.proofs.Numbers.{le_or}
use Rattle.meaning.proofs.Digits.{last, few, decimal_some}
use Rattle.writing.specs.Pieces.{Sized, sign, point_at, head, head_length, tail, Tailed}
use Rattle.writing.specs.Written.{written}
use Rattle.writing.proofs.Written.{follow, written_one, length-written}

-- ---- the sign

pub signed_text : (s : Bool) (t : List ℕ) → sign s ++ t ≡ signed s t
signed_text true t = refl
signed_text false t = refl

-- ---- the exponent

module _ (f : ℕ) where
  pub tail-above : 6177 < f → tail f ≡ 69 ∷ 43 ∷ decimal (f - 6177)
  unfolding tail
  tail-above h = simp (lt-ltb 6177 f h)

  pub tail-below : f < 6177 → tail f ≡ 69 ∷ 45 ∷ decimal (6177 - f)
  unfolding tail
  tail-below h = simp (le-ltb 6177 f (omega arith), lt-ltb f 6177 h)

  pub tail_none : f ≡ 6177 → tail f ≡ 69 ∷ 48 ∷ []
  unfolding tail decimal
  tail_none e = simp (le-ltb 6177 f (omega arith), le-ltb f 6177 (omega arith)) (ap (λ (l : List ℕ). 69 ∷ l) (last 39 0 [] (omega arith)))

  pub tailed_above : {n : ℕ} → Tailed f n → 6177 < f → n - 2 ≡ length (decimal (f - 6177))
  tailed_above t h = omega (arith, t.count ∙ ap length (tail-above h))

  pub tailed_below : {n : ℕ} → Tailed f n → f < 6177 → n - 2 ≡ length (decimal (6177 - f))
  tailed_below t h = omega (arith, t.count ∙ ap length (tail-below h))

-- ---- the digits

pub sized : (n k : ℕ) → n < 10 ^ 34 → k ≡ length (decimal n) → Sized n k
sized n k h e = record { below = h; count = e; some = omega (arith, decimal_some n h); few = omega (arith, few n 33 h) }

module _ (ds : List ℕ) where
  pub head_more : 1 < length ds → head ds ≡ point_at 1 ds
  unfolding head
  head_more h = simp (lt-ltb 1 (length ds) h)

  pub head_one : length ds ≡ 1 → head ds ≡ ds
  unfolding head
  head_one e = simp (le-ltb 1 (length ds) (omega arith)) (append-nil (take 1 ds) ∙ take_all 1 ds (omega arith))

  pub length_point : (m : ℕ) {k : ℕ} → k ≡ length ds → m ≤ k → k + 1 ≡ length (point_at m ds)
  length_point m e h =
      let n : length (take m ds) ≡ m = length-take-le m ds (omega arith) in
      simp (length-append, n, length-drop) (omega arith)

  pub length-head : {k : ℕ} → k ≡ length ds → 1 ≤ k → head_length k ≡ length (head ds)
  length-head e h =
      rw e
      (⊎_elim
      (λ g. rw (head_more g, lt-ltb 1 (length ds) g) (length_point 1 refl (omega arith)))
      (λ g. rw (head_one (omega arith), le-ltb 1 (length ds) (omega arith)))
      (le_or 2 (length ds)))

  pub length_small : (p : ℕ) {k : ℕ} → k ≡ length ds → k ≤ p → 2 + p ≡ length (48 ∷ 46 ∷ replicate (p - k) 48 ++ ds)
  length_small p e h = simp (length-append, length-replicate) (omega arith)

  pub length_power : (f : ℕ) {h n : ℕ} → h ≡ length (head ds) → Tailed f n → h + n ≡ length (head ds ++ tail f)
  length_power f e t = omega (arith, t.count, length-append (head ds) (tail f))

  -- ---- which notation

  pub plain_whole : (p : ℕ) → p ≡ 0 → plain ds p ≡ ds
  plain_whole p e = rw e

  pub plain_pointed : (p : ℕ) → (p ≡ 0 → ⊥) → p < length ds → plain ds p ≡ point_at (length ds - p) ds
  plain_pointed p z h = simp (ne_eqb p 0 z, lt-leb (length ds) p h)

  pub plain_small : (p : ℕ) → (p ≡ 0 → ⊥) → length ds ≤ p → plain ds p ≡ 48 ∷ 46 ∷ replicate (p - length ds) 48 ++ ds
  plain_small p z h = simp (ne_eqb p 0 z, le-leb (length ds) p h)

  pub magnitude-plain : (e : ℕ) → e ≤ 6176 → 6171 ≤ e + length ds → magnitude ds e ≡ plain ds (6176 - e)
  unfolding magnitude
  magnitude-plain e h l = simp (le-leb e 6176 h, le-leb 6171 (e + length ds) l)

  pub magnitude_power : (e : ℕ) → (6176 < e) ⊎ (e + length ds < 6171) → magnitude ds e ≡ head ds ++ tail (e + length ds)
  unfolding magnitude head tail
  magnitude_power e (inl h) = simp (lt-leb e 6176 h)
  magnitude_power e (inr h) = simp (lt-leb 6171 (e + length ds) h, and-false (leb e 6176))

-- `0.`, zeros and the digits, one behind the other
pub small_in : (at n p k : ℕ) (ds b : List ℕ) {c d r : List ℕ} → k ≡ length ds → k ≤ p → n + k ≡ at + p + 2 → at + p + 2 ≤ length b →
    c ≡ written at (48 ∷ 46 ∷ []) b → d ≡ written (at + 2) (replicate (p - k) 48) c → r ≡ written n ds d →
    r ≡ written at (48 ∷ 46 ∷ replicate (p - k) 48 ++ ds) b
small_in at n p k ds b l h s room e f g =
    let z = length-replicate {A = ℕ} (p - k) 48 in
    follow at n (48 ∷ 46 ∷ replicate (p - k) 48) ds b
    (follow at (at + 2) (48 ∷ 46 ∷ []) (replicate (p - k) 48) b e f refl (omega arith))
    g
    (omega arith)
    (omega arith)

-- ---- hexadecimal

hexes-append : (a b : List ℕ) → hexes (a ++ b) ≡ hexes a ++ hexes b
unfolding hexes
hexes-append [] b = refl
hexes-append (x ∷ a) b = ap (λ (l : List ℕ). hex_digit (x / 16) ∷ hex_digit (x % 16) ∷ l) (hexes-append a b)

pub length-hexes : (s : List ℕ) → length (hexes s) ≡ 2 * length s
unfolding hexes
length-hexes [] = refl
length-hexes (x ∷ s) = omega (arith, length-hexes s)

-- one byte more
pub push_hex : (s : List ℕ) (at i : ℕ) (b₀ : List ℕ) {b c : List ℕ} → i < length s → at + 2 * length s ≤ length b₀ → b ≡ written at (hexes (take i s)) b₀ →
    c ≡ written (at + 2 * i) (hexes (get_or s i 0 ∷ [])) b → c ≡ written at (hexes (take (i + 1) s)) b₀
push_hex s at i b₀ h room e f =
    let n : length (hexes (take i s)) ≡ 2 * i = length-hexes (take i s) ∙ rw (length-take-le i s (omega arith)) in
    follow at (at + 2 * i) (hexes (take i s)) (hexes (get_or s i 0 ∷ [])) b₀ e f (rw n) (omega arith) ∙ rw (add-one, take-suc s i 0 h, hexes-append)

-- ---- the debug form

module _ (s : List ℕ) (sixteen : length s ≡ 16) where
  pub length_debug : 44 ≡ length (debug_text s)
  unfolding debug_text bytes
  length_debug = simp (length-append, length-hexes) (omega arith)

  pub debug_in : (b : List ℕ) {c d : List ℕ} → 44 ≤ length b → c ≡ written 0 (bytes "Decimal128(") b → d ≡ written 11 (hexes s) c → set d 43 41 ≡ written 0 (debug_text s) b
  unfolding debug_text bytes
  debug_in b {c} {d} h e f =
      let n = length-hexes s in
      let l = ap length e ∙ length-written 0 (bytes "Decimal128(") b (omega arith) in
      let m = ap length f ∙ length-written 11 (hexes s) c (omega arith) in
      follow 0 43 (bytes "Decimal128(" ++ hexes s) (bytes ")") b
      (follow 0 11 (bytes "Decimal128(") (hexes s) b e f refl (omega arith))
      (written_one 43 41 d (omega arith))
      (simp n (omega arith))
      (omega arith)
