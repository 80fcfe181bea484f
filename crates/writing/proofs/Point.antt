-- The point in a text of digits, two ways: the digits are written one byte further on, and those before the point are then moved
-- back; or those behind the point are written first, then the point and those before it.
use mathlib.Core.Path.{◌≡◌, refl, sym, ap, subst, ◌∙◌}
use mathlib.Core.List.{List, [], ◌∷◌, ◌++◌, append_assoc}
use Prim.Native.Nat.{ℕ, ◌+◌, ◌-◌, ◌/◌, ◌^◌, ◌≤◌, ◌<◌}
use native.Mathlib.Omega.{arith}
use lib.ListN.{length, take, drop, set, get_or, length-append, length-drop}
use lib.Seq.{length-take-le, take_at, drop_at, drop-drop, get_or-drop, take-append-le, take-take, drop-append-le}
use Rattle.writing.specs.Pieces.{low}
use Rattle.writing.specs.Written.{written}
use Rattle.writing.proofs.Written.{written_one, length-written, written-next, written-before, follow}
use Rattle.writing.proofs.Low.{length-low, low_split}

-- a write leaves what stands beyond it
beyond : (at r : ℕ) (s b : List ℕ) → at ≤ length b → get_or (written at s b) (at + length s + r) 0 ≡ get_or b (at + length s + r) 0
unfolding written
beyond at r s b h =
    let p : length (take at b ++ s) ≡ at + length s = length-append (take at b) s ∙ rw (length-take-le at b h) in
    rw (← append_assoc (take at b) s (drop (at + length s) b), ← get_or-drop (at + length s) (take at b ++ s ++ drop (at + length s) b) r 0, drop_at (take at b ++ s) (drop (at + length s) b) (at + length s) p)
    (get_or-drop (at + length s) b r 0)

-- one more of the bytes from at + 1 on goes one to the left
pub push_left : (at i : ℕ) (b₀ : List ℕ) {b : List ℕ} → b ≡ written at (take i (drop (at + 1) b₀)) b₀ → at + i + 1 < length b₀ →
    set b (at + i) (get_or b (at + i + 1) 0) ≡ written at (take (i + 1) (drop (at + 1) b₀)) b₀
push_left at i b₀ {b} l r =
    let s = drop (at + 1) b₀ in
    let k : length s ≡ length b₀ - (at + 1) = length-drop (at + 1) b₀ in
    let n : length (take i s) ≡ i = length-take-le i s (omega arith) in
    let p : get_or b (at + i + 1) 0 ≡ get_or b₀ (at + i + 1) 0 =
    rw l (subst (λ (j : ℕ). get_or (written at (take i s) b₀) (at + j + 1) 0 ≡ get_or b₀ (at + j + 1) 0) n (beyond at 1 (take i s) b₀ (omega arith))) in
    let q : at + i + 1 ≡ at + 1 + i = omega arith in
    let e : get_or b (at + i + 1) 0 ≡ get_or s i 0 = p ∙ ap (λ (j : ℕ). get_or b₀ j 0) q ∙ sym (get_or-drop (at + 1) b₀ i 0) in
    rw e (written-next at i s b₀ l (omega arith) (omega arith))

-- the point behind them
pub push_point : (at m i : ℕ) (b₀ : List ℕ) {b : List ℕ} → i ≡ m → b ≡ written at (take i (drop (at + 1) b₀)) b₀ → at + m < length b₀ →
    set b (at + m) 46 ≡ written at (take m (drop (at + 1) b₀) ++ 46 ∷ []) b₀
push_point at m i b₀ {b} e l r =
    let s = take m (drop (at + 1) b₀) in
    let n : length s ≡ m = length-take-le m (drop (at + 1) b₀) (simp length-drop (omega arith)) in
    let moved : b ≡ written at s b₀ = rw e at l in
    let k : length b ≡ length b₀ = ap length moved ∙ length-written at s b₀ (omega arith) in
    follow at (at + m) s (46 ∷ []) b₀ moved (written_one (at + m) 46 b (omega arith)) (rw n) (omega arith)

-- ---- the digits ds from at + 1 on, and the first m of them moved

written_is : (at : ℕ) (s b : List ℕ) → written at s b ≡ take at b ++ (s ++ drop (at + length s) b)
unfolding written
written_is at s b = refl

module _ (at m : ℕ) (ds b : List ℕ) (within : m ≤ length ds) (fits : at + length ds < length b) where
  abbrev rest : List ℕ
  rest = drop (at + 1 + length ds) b

  point_drop : drop (at + 1) (written (at + 1) ds b) ≡ ds ++ rest
  unfolding written
  point_drop = drop_at (take (at + 1) b) (ds ++ rest) (at + 1) (length-take-le (at + 1) b (omega arith))

  point_take : take at (written (at + 1) ds b) ≡ take at b
  unfolding written
  point_take =
      let n : length (take (at + 1) b) ≡ at + 1 = length-take-le (at + 1) b (omega arith) in
      take-append-le at (take (at + 1) b) (ds ++ drop (at + 1 + length ds) b) (omega arith) ∙ take-take at (at + 1) b (omega arith)

  pub point_in : {c d : List ℕ} → c ≡ written (at + 1) ds b → d ≡ written at (take m (drop (at + 1) c) ++ 46 ∷ []) c → d ≡ written at (take m ds ++ 46 ∷ drop m ds) b
  point_in e f =
      let n : length (take m ds) ≡ m = length-take-le m ds within in
      let u = take m ds ++ 46 ∷ [] in
      let k : length u ≡ m + 1 = length-append (take m ds) (46 ∷ []) ∙ rw n in
      let l : length (take m ds ++ 46 ∷ drop m ds) ≡ 1 + length ds = simp (length-append, n, length-drop) (omega arith) in
      let p : at + (m + 1) ≡ at + 1 + m = omega arith in
      let q : at + (1 + length ds) ≡ at + 1 + length ds = omega arith in
      let t : take m (drop (at + 1) (written (at + 1) ds b)) ≡ take m ds = rw point_drop (take-append-le m ds rest within) in
      let r : drop (at + 1 + m) (written (at + 1) ds b) ≡ drop m ds ++ rest =
      sym (drop-drop m (at + 1) (written (at + 1) ds b)) ∙ rw point_drop (drop-append-le m ds rest within) in
      f ∙ rw (e, t, written_is at u (written (at + 1) ds b), point_take, k, p, r, written_is at (take m ds ++ 46 ∷ drop m ds) b, l, q) (simp append_assoc)

-- ---- the digits behind the point, then the point and the digits before it

-- the point stands already, and the digits before it are put
pub front_in : (at m v : ℕ) (b : List ℕ) {d : List ℕ} → at + m < length b → d ≡ written at (low m v) (set b (at + m) 46) → d ≡ written at (low m v ++ 46 ∷ []) b
front_in at m v b h e =
    e ∙ rw (written_one (at + m) 46 b h) (written-before at (at + m) (low m v) (46 ∷ []) b (rw length-low) (omega arith))

pub around : (at k m v : ℕ) (b : List ℕ) {c d : List ℕ} → m ≤ k → at + k < length b →
    c ≡ written (at + m + 1) (low (k - m) v) b → d ≡ written at (low m (v / 10 ^ (k - m)) ++ 46 ∷ []) c →
    d ≡ written at (take m (low k v) ++ 46 ∷ drop m (low k v)) b
around at k m v b h l e f =
    let w = k - m in
    let q = v / 10 ^ w in
    let s : low k v ≡ low m q ++ low w v = low_split w m k v (omega arith) in
    let n : length (low m q ++ 46 ∷ []) ≡ m + 1 = length-append (low m q) (46 ∷ []) ∙ rw length-low in
    let p = take_at (low m q) (low w v) m (length-low m q) in
    let r = drop_at (low m q) (low w v) m (length-low m q) in
    let t = written-before at (at + m + 1) (low m q ++ 46 ∷ []) (low w v) b (rw n (omega arith)) (omega arith) in
    f ∙ rw (e, t, s, p, r) (simp append_assoc)
