-- Chunks of nine digits: those that four limbs make, and a chunk behind what is left of a number.
use mathlib.Core.Path.{◌≡◌, refl, sym, ap, ◌∙◌}
use mathlib.Core.List.{List, [], ◌∷◌}
use Prim.Native.Nat.{ℕ, ◌+◌, ◌-◌, ◌*◌, ◌/◌, ◌%◌, ◌^◌, ◌≤◌, ◌<◌}
use native.Mathlib.Nat.{lt_of_lt_of_le}
use native.Mathlib.Numerals.{add-one, unary_clauses}
use native.Mathlib.Omega.{arith}
use lib.ListN.{length, drop, get_or}
use lib.Seq.{drop-cons}
use Rattle.std.proofs.lemmas.List.Elements.{All-nil, All-cons}
use Rattle.limbs.specs.Value.{value}
use Rattle.limbs.proofs.Laws.{value_four}
use Rattle.meaning.proofs.Numbers.{pow-le}
use Rattle.writing.specs.Pieces.{low, joined, Chunks}
use Rattle.writing.specs.Written.{written}
use Rattle.writing.proofs.Low.{low-mod, low_put, before-below}

-- a number of at most nine digits is all in its lowest limb
first_limb : (x n : ℕ) → x + 2 ^ 32 * n < 10 ^ 9 → x ≡ x + 2 ^ 32 * n
first_limb x n h = omega arith

pub few_limb : (a : List ℕ) → length a ≡ 4 → (k : ℕ) → k ≤ 9 → value a < 10 ^ k → get_or a 0 0 ≡ value a
few_limb a l k h b =
    let t : value a < 10 ^ 9 = lt_of_lt_of_le b (pow-le h) in
    rw (value_four a l) (first_limb _ _ (rw (value_four a l) at t))

-- ---- the chunks of four limbs

-- 2^32, 2^64 and 2^96 in powers of 10^9: n is each sum's last nine digits, and q what stands before them
pub whole_chunks : (a₀ a₁ a₂ a₃ n₀ n₁ n₂ q₀ q₁ q₂ : ℕ) →
    n₀ + 10 ^ 9 * q₀ ≡ a₀ + a₁ * 294967296 + a₂ * 709551616 + a₃ * 543950336 →
    n₁ + 10 ^ 9 * q₁ ≡ q₀ + a₁ * 4 + a₂ * 446744073 + a₃ * 264337593 →
    n₂ + 10 ^ 9 * q₂ ≡ q₁ + a₂ * 18 + a₃ * 228162514 →
    n₀ + 10 ^ 9 * (n₁ + 10 ^ 9 * (n₂ + 10 ^ 9 * (q₂ + a₃ * 79))) ≡ value (a₀ ∷ a₁ ∷ a₂ ∷ a₃ ∷ [])
whole_chunks a₀ a₁ a₂ a₃ n₀ n₁ n₂ q₀ q₁ q₂ e f g = omega arith

-- a chunk taken off
chunk_off : (m r q : ℕ) → r + 10 ^ 9 * q < 10 ^ 9 * m → q < m
chunk_off m r q h = omega arith

pub chunks_of : (n₃ : ℕ) {n n₀ n₁ n₂ : ℕ} → n₀ < 10 ^ 9 → n₁ < 10 ^ 9 → n₂ < 10 ^ 9 → n < 10 ^ 34 →
    n₀ + 10 ^ 9 * (n₁ + 10 ^ 9 * (n₂ + 10 ^ 9 * n₃)) ≡ n → Chunks n (n₀ ∷ n₁ ∷ n₂ ∷ n₃ ∷ [])
unfolding joined
chunks_of n₃ a b c l e =
    let small = λ (m : ℕ). m < 10 ^ 9 in
    let d : n₃ < 10 ^ 7 = chunk_off (10 ^ 7) _ _ (chunk_off (10 ^ 16) _ _ (chunk_off (10 ^ 25) _ _ (rw (← e) at l))) in
    record {
      nine = All-cons small _ (_ ∷ _ ∷ n₃ ∷ []) a (All-cons small _ (_ ∷ n₃ ∷ []) b (All-cons small _ (n₃ ∷ []) c (All-cons small n₃ [] (omega arith) (All-nil small))));
      whole = simp unary_clauses e;
    }

-- ---- the last nine digits r of a number, and q before them

before_nine : (r q : ℕ) → r < 10 ^ 9 → q ≡ (r + 10 ^ 9 * q) / 10 ^ 9
before_nine r q h = omega arith

last_nine : (r q : ℕ) → r < 10 ^ 9 → low 9 r ≡ low 9 (r + 10 ^ 9 * q)
last_nine r q h =
    let e : (r + 10 ^ 9 * q) % 10 ^ 9 ≡ r = omega arith in
    sym (low-mod 9 (r + 10 ^ 9 * q) ∙ rw e)

-- k digits are the nine, and k - 9 before them
pub chunk_below : (k r q : ℕ) → 9 < k → r < 10 ^ 9 → r + 10 ^ 9 * q < 10 ^ k → q < 10 ^ (k - 9)
chunk_below k r q h n l = rw (before_nine r q n) (before-below 9 (k - 9) k (r + 10 ^ 9 * q) (omega arith) l)

-- and so has a chunk of what is left
pub first_below : {m : ℕ} (r q : ℕ) → r + 10 ^ 9 * q < m → r < m
first_below r q h = omega arith

chunk_put : (at k r q : ℕ) (b : List ℕ) {c d : List ℕ} → 9 < k → at + k ≤ length b → r < 10 ^ 9 → c ≡ written (at + (k - 9)) (low 9 r) b →
    d ≡ written at (low (k - 9) q) c → d ≡ written at (low k (r + 10 ^ 9 * q)) b
chunk_put at k r q b {c} many room n e f =
    low_put 9 at (k - 9) k (r + 10 ^ 9 * q) b (omega arith) room (e ∙ rw (last_nine r q n))
    (f ∙ ap (λ (m : ℕ). written at (low (k - 9) m) c) (before_nine r q n))

-- ---- a loop over the chunks: left digits are those of the chunks from the i-th on

module _ (ns : List ℕ) (i left : ℕ) (here : i < length ns) where
  joined_from : joined (drop i ns) ≡ get_or ns i 0 + 10 ^ 9 * joined (drop (i + 1) ns)
  unfolding joined
  joined_from = rw (add-one, drop-cons ns i 0)

  pub chunk_first : joined (drop i ns) < 10 ^ left → get_or ns i 0 < 10 ^ left
  chunk_first l = first_below _ _ (rw joined_from at l)

  -- at most nine are left, and so all are in one chunk
  pub chunk_last : left ≤ 9 → joined (drop i ns) < 10 ^ left → get_or ns i 0 ≡ joined (drop i ns)
  chunk_last few l = omega (arith, joined_from, pow-le {i = left} {j = 9} few)

  pub chunks_after : 9 < left → get_or ns i 0 < 10 ^ 9 → joined (drop i ns) < 10 ^ left → joined (drop (i + 1) ns) < 10 ^ (left - 9)
  chunks_after many n l = chunk_below left _ _ many n (rw joined_from at l)

  pub chunk_turn : (at : ℕ) (b : List ℕ) {c : List ℕ} → 9 < left → at + left ≤ length b → get_or ns i 0 < 10 ^ 9 →
      c ≡ written (at + (left - 9)) (low 9 (get_or ns i 0)) b →
      written at (low (left - 9) (joined (drop (i + 1) ns))) c ≡ written at (low left (joined (drop i ns))) b
  chunk_turn at b many room n e = rw joined_from (chunk_put at left _ _ b many room n e refl)
