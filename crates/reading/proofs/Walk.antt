-- Laws of `run`: a byte more, its parts, its length, its zeros.
use mathlib.Core.Path.{◌≡◌, refl, sym, ap, subst, ◌∙◌}
use mathlib.Core.Logic.{◌⊎◌, inl, inr, ⊎_elim}
use mathlib.Core.Bool.{true, false}
use mathlib.Core.List.{List, [], ◌∷◌, ◌++◌}
use Prim.Native.Nat.{ℕ, suc, ◌+◌, ◌-◌, ◌≤◌, ◌<◌}
use native.Mathlib.Nat.{add-zero}
use native.Mathlib.Omega.{arith}
use lib.ListN.{length, get_or, take, drop}
use lib.Seq.{slice, slice_empty, take_at, drop_at, length-slice}
use borrow.Author.Tests.{eq-eqb, ne_eqb}
use Rattle.meaning.specs.Reading.{strip_zeros, all_zeros}
use Rattle.meaning.proofs.Numbers.{le_or, eq_or}
use Rattle.reading.specs.Run.{without, run, counted, Offset, ZerosTo}
use Rattle.reading.proofs.Bytes.{slice_step, slice_parts, without_skip, without-take}

-- ---- a byte more

module _ (p i t : ℕ) (s : List ℕ) (h : i < t) (l : t ≤ length s) where
  run_skip : i ≡ p → run p i t s ≡ run p (i + 1) t s
  unfolding run
  run_skip e = rw (slice_step i t s h l) (without_skip p i _ _ e)

  run_take : (i ≡ p → ⊥) → run p i t s ≡ get_or s i 0 ∷ run p (i + 1) t s
  unfolding run
  run_take e = rw (slice_step i t s h l) (without-take p i _ _ e)

run_empty : (p t : ℕ) (s : List ℕ) → run p t t s ≡ []
unfolding run without
run_empty p t s = rw (slice_empty t s)

-- ---- its parts

without-append : (p i : ℕ) (a b : List ℕ) → without p i (a ++ b) ≡ without p i a ++ without p (i + length a) b
without-append p i [] b = unfold without in rw add-zero
without-append p i (x ∷ a) b =
    let n : i + suc (length a) ≡ i + 1 + length a = omega arith in
    ⊎_elim
    (λ e. rw (n, without_skip p i x (a ++ b) e, without_skip p i x a e) (without-append p (i + 1) a b))
    (λ e. rw (n, without-take p i x (a ++ b) e, without-take p i x a e, without-append p (i + 1) a b))
    (eq_or i p)

pub run_parts : (p i m t : ℕ) (s : List ℕ) → i ≤ m → m ≤ t → t ≤ length s → run p i t s ≡ run p i m s ++ run p m t s
unfolding run
run_parts p i m t s h k l =
    let e : i + length (slice i m s) ≡ m = omega (arith, length-slice i m s (omega arith)) in
    rw (slice_parts i m t s h k l, without-append) (rw e)

-- ---- without the byte at p

without_apart : (p i : ℕ) (s : List ℕ) → (p < i) ⊎ (i + length s ≤ p) → without p i s ≡ s
without_apart p i [] h = unfold without in refl
without_apart p i (x ∷ s) h =
    let n : i ≡ p → ⊥ = (λ e. ⊎_elim (λ k. omega arith) (λ k. omega arith) h) in
    let r : (p < i + 1) ⊎ (i + 1 + length s ≤ p) = ⊎_elim (λ k. inl (omega arith)) (λ k. inr (omega arith)) h in
    without-take p i x s n ∙ ap (λ (l : List ℕ). x ∷ l) (without_apart p (i + 1) s r)

pub run_apart : (p i t : ℕ) (s : List ℕ) → (p < i) ⊎ (t ≤ p) → i ≤ t → t ≤ length s → run p i t s ≡ slice i t s
unfolding run
run_apart p i t s h k l =
    let e : i + length (slice i t s) ≡ t = omega (arith, length-slice i t s l) in without_apart p i (slice i t s) (rw e h)

pub run_across : (p i t : ℕ) (s : List ℕ) → i ≤ p → p < t → t ≤ length s → run p i t s ≡ slice i p s ++ slice (p + 1) t s
run_across p i t s h k l =
    run_parts p i p t s h (omega arith) l
    ∙ rw (run_apart p i p s (inr (omega arith)) h (omega arith), run_skip p p t s k l refl, run_apart p (p + 1) t s (inl (omega arith)) (omega arith) l)

-- ---- its length

pub counted_apart : (p i t : ℕ) → (p < i) ⊎ (t ≤ p) → counted p i t ≡ t - i
counted_apart p i t (inl h) = omega arith
counted_apart p i t (inr h) = omega arith

pub counted_across : (p i t : ℕ) → i ≤ p → p < t → counted p i t ≡ t - i - 1
counted_across p i t h k = omega arith

counted_skip : (p i n : ℕ) → i ≡ p → counted p (i + 1) (i + 1 + n) ≡ counted p i (i + suc n)
counted_skip p i n e =
    rw (counted_apart p (i + 1) (i + 1 + n) (inl (omega arith)), counted_across p i (i + suc n) (omega arith) (omega arith)) (omega arith)

counted_more : (p i n : ℕ) → (i ≡ p → ⊥) → suc (counted p (i + 1) (i + 1 + n)) ≡ counted p i (i + suc n)
counted_more p i n e =
    ⊎_elim
    (λ h. rw (counted_apart p (i + 1) (i + 1 + n) (inl (omega arith)), counted_apart p i (i + suc n) (inl (omega (arith, e)))) (omega arith))
    (λ h.
    ⊎_elim
    (λ k. rw (counted_apart p (i + 1) (i + 1 + n) (inr (omega arith)), counted_apart p i (i + suc n) (inr k)) (omega arith))
    (λ k. rw (counted_across p (i + 1) (i + 1 + n) (omega arith) (omega arith), counted_across p i (i + suc n) (omega arith) k) (omega arith))
    (le_or (i + suc n) p))
    (le_or p i)

length_without : (p i : ℕ) (s : List ℕ) → length (without p i s) ≡ counted p i (i + length s)
length_without p i [] = unfold without in omega arith
length_without p i (x ∷ s) =
    ⊎_elim
    (λ e. rw (without_skip p i x s e) (length_without p (i + 1) s ∙ counted_skip p i (length s) e))
    (λ e. rw (without-take p i x s e) (ap suc (length_without p (i + 1) s) ∙ counted_more p i (length s) e))
    (eq_or i p)

pub length_run : (p i t : ℕ) (s : List ℕ) → i ≤ t → t ≤ length s → length (run p i t s) ≡ counted p i t
unfolding run
length_run p i t s h l =
    let e : i + length (slice i t s) ≡ t = omega (arith, length-slice i t s l) in length_without p i (slice i t s) ∙ rw e

-- ---- its first n bytes and the others

module _ (p i n r t : ℕ) (s : List ℕ) (o : Offset p i n r) (h : i ≤ t) (l : t ≤ length s) (m : n ≤ length (run p i t s)) where
  pub run_within : r ≤ t
  run_within = o.first t h (omega (arith, length_run p i t s h l))

  first_length : length (run p i r s) ≡ n
  first_length = length_run p i r s o.after (omega (arith, run_within)) ∙ o.count

  pub run_first : take n (run p i t s) ≡ run p i r s
  run_first = ap (take n) (run_parts p i r t s o.after run_within l) ∙ take_at (run p i r s) (run p r t s) n first_length

  pub run_rest : drop n (run p i t s) ≡ run p r t s
  run_rest = ap (drop n) (run_parts p i r t s o.after run_within l) ∙ drop_at (run p i r s) (run p r t s) n first_length

-- ---- its zeros

-- the bytes passed are zeros
pub record ZerosAt (p i t : ℕ) (s : List ℕ) (k : ℕ) : Type 0 where
  pub after : i ≤ k
  pub within : k ≤ t
  pub strip : strip_zeros (run p i t s) ≡ strip_zeros (run p k t s)
  pub zeros : all_zeros (run p i t s) ≡ all_zeros (run p k t s)

pub zeros_none : (p i t : ℕ) (s : List ℕ) → i ≤ t → ZerosAt p i t s i
zeros_none p i t s h = record { after = omega arith; within = h; strip = refl; zeros = refl }

module _ (p i t k : ℕ) (s : List ℕ) (z : ZerosAt p i t s k) (h : k < t) (l : t ≤ length s) where
  pub zeros_point : k ≡ p → ZerosAt p i t s (k + 1)
  zeros_point e =
      let q = run_skip p k t s h l e in
      record { after = omega (arith, z.after); within = omega arith; strip = z.strip ∙ ap strip_zeros q; zeros = z.zeros ∙ ap all_zeros q }

  zeros_taken : get_or s k 0 ≡ 48 → (k ≡ p → ⊥) → ZerosAt p i t s (k + 1)
  unfolding strip_zeros all_zeros
  zeros_taken e n =
      let q = run_take p k t s h l n in
      record {
        after = omega (arith, z.after);
        within = omega arith;
        strip = z.strip ∙ ap strip_zeros q ∙ simp (eq-eqb _ _ e);
        zeros = z.zeros ∙ ap all_zeros q ∙ simp (eq-eqb _ _ e);
      }

  pub zeros_zero : get_or s k 0 ≡ 48 → ZerosAt p i t s (k + 1)
  zeros_zero e = ⊎_elim zeros_point (zeros_taken e) (eq_or k p)

  pub zeros_other : (get_or s k 0 ≡ 48 → ⊥) → (k ≡ p → ⊥) → ZerosTo p i t s k
  unfolding strip_zeros all_zeros
  zeros_other e n =
      let q = run_take p k t s h l n in
      record {
        after = z.after;
        within = z.within;
        strip = z.strip ∙ ap strip_zeros q ∙ rw (ne_eqb _ _ e) (sym q);
        zeros = z.zeros ∙ ap all_zeros q ∙ rw (ne_eqb _ _ e, ne_eqb k t (λ w. omega arith));
        apart = λ _. n;
      }

pub zeros_all : (p i t k : ℕ) (s : List ℕ) → ZerosAt p i t s k → t ≤ k → ZerosTo p i t s k
unfolding strip_zeros all_zeros
zeros_all p i t k s z h =
    let e : k ≡ t = omega (arith, z.within) in
    let q : run p k t s ≡ [] = rw e (run_empty p t s) in
    record {
      after = z.after;
      within = z.within;
      strip = z.strip ∙ rw q;
      zeros = z.zeros ∙ rw (q, eq-eqb k t e);
      apart = λ w. absurd (omega arith);
    }

pub zeros_end : (p i t k : ℕ) (s : List ℕ) → ZerosAt p i t s k → t ≤ k → ZerosTo p i t s t
zeros_end p i t k s z h = let e : k ≡ t = omega (arith, z.within) in subst (ZerosTo p i t s) e (zeros_all p i t k s z h)

module _ (p i t r : ℕ) (s : List ℕ) (z : ZerosTo p i t s r) where
  pub zeros_not : r < t → all_zeros (run p i t s) ≡ false
  zeros_not h = z.zeros ∙ ne_eqb r t (λ e. omega arith)

  pub zeros_only : t ≤ r → all_zeros (run p i t s) ≡ true
  zeros_only h = z.zeros ∙ eq-eqb r t (omega (arith, z.within))
