-- The points of the run: what the pass has found of them, carried to every part of it.
use mathlib.Core.Path.{◌≡◌, refl, sym, ap, ◌∙◌}
use mathlib.Core.Logic.{⊎_elim}
use mathlib.Core.Bool.{true, false, true≢false}
use mathlib.Core.List.{List, [], ◌∷◌, ◌++◌}
use Prim.Native.Nat.{ℕ, zero, suc, ◌+◌, ◌-◌, ◌≤◌, ◌<◌, min}
use native.Mathlib.Omega.{arith}
use lib.Dec.{eqb, ltb}
use lib.ListN.{length, take, drop, length-append, length-drop}
use lib.Seq.{slice, take-take}
use borrow.Author.Tests.{eqb-true, le-ltb, lt-ltb}
use Rattle.meaning.specs.Reading.{is_digit, all_digits, all_zeros, strip_zeros, holds}
use Rattle.meaning.proofs.Numbers.{both, both_of, eq_or}
use Rattle.reading.specs.declared.scan.Found.{Found}
use Rattle.reading.specs.Scan.{is_plain, all_plain, decimals, first_at, second_at, points, unpointed, Scanned}
use Rattle.reading.specs.Run.{without, run, ZerosTo, Walked}
use Rattle.reading.proofs.Bytes.{take-drop, digit_no_point, plain_or, points_more, points-same, unpointed_less, unpointed_more, holds_here, holds_later, first_here, first_later, second_next, second_later, without_skip, without-take}
use Rattle.reading.proofs.Walk.{run_parts}
use Rattle.reading.proofs.Split.{points_few, first_low, without_here, without_later, decimals_all, decimals-slice, decimals-length}
use Rattle.std.proofs.lemmas.Bool.{cases_Bool}

-- ---- the first k bytes of a list whose first byte stands at i

holds_first : (b n i k : ℕ) (l : List ℕ) → i + length l ≤ n → k ≤ length l → holds b (take k l) ≡ ltb (first_at b n i l) (i + k)
holds_first b n i zero l h m = unfold holds in sym (le-ltb (first_at b n i l) (i + 0) (omega (arith, first_low b n i l h)))
holds_first b n i (suc k) [] h m = absurd (omega arith)
holds_first b n i (suc k) (x ∷ l) h m =
    let w : i + 1 + length l ≤ n = omega arith in
    let e : i + 1 + k ≡ i + suc k = omega arith in
    ⊎_elim
    (λ q. holds_here b x (take k l) q ∙ sym (rw (first_here b n i x l q) (lt-ltb i (i + suc k) (omega arith))))
    (λ q. holds_later b x (take k l) q ∙ holds_first b n (i + 1) k l w (omega arith) ∙ rw (first_later b n i x l q, e))
    (eq_or x b)

second-low : (n i : ℕ) (l : List ℕ) → i + length l ≤ n → i ≤ second_at n i l
second-low n i [] h = unfold second_at in omega arith
second-low n i (x ∷ l) h =
    let w : i + 1 + length l ≤ n = omega arith in
    ⊎_elim
    (λ q. rw (second_next n i x l q) (omega (arith, first_low 46 n (i + 1) l w)))
    (λ q. rw (second_later n i x l q) (omega (arith, second-low n (i + 1) l w)))
    (eq_or x 46)

holds-second : (n i k : ℕ) (l : List ℕ) → i + length l ≤ n → k ≤ length l → holds 46 (without (first_at 46 n i l) i (take k l)) ≡ ltb (second_at n i l) (i + k)
holds-second n i zero l h m =
    unfold holds without in sym (le-ltb (second_at n i l) (i + 0) (omega (arith, second-low n i l h)))
holds-second n i (suc k) [] h m = absurd (omega arith)
holds-second n i (suc k) (x ∷ l) h m =
    let w : i + 1 + length l ≤ n = omega arith in
    let e : i + 1 + k ≡ i + suc k = omega arith in
    ⊎_elim
    (λ q.
    rw (first_here 46 n i x l q, without_here i i x (take k l) refl, second_next n i x l q)
    (holds_first 46 n (i + 1) k l w (omega arith) ∙ rw e))
    (λ q.
    let f = first_low 46 n (i + 1) l w in
    rw (first_later 46 n i x l q, without_later (first_at 46 n (i + 1) l) i x (take k l) (omega arith), second_later n i x l q)
    (holds_later 46 x _ q ∙ holds-second n (i + 1) k l w (omega arith) ∙ rw e))
    (eq_or x 46)

-- ---- at most one point

none_first : (n i : ℕ) (l : List ℕ) → points l ≡ 0 → first_at 46 n i l ≡ n
none_first n i [] e = unfold first_at in refl
none_first n i (x ∷ l) e =
    ⊎_elim
    (λ q. absurd (omega (arith, sym (points_more x l q) ∙ e)))
    (λ q. first_later 46 n i x l q ∙ none_first n (i + 1) l (sym (points-same x l q) ∙ e))
    (eq_or x 46)

one_second : (n i : ℕ) (l : List ℕ) → points l < 2 → second_at n i l ≡ n
one_second n i [] e = unfold second_at in refl
one_second n i (x ∷ l) e =
    ⊎_elim
    (λ q. second_next n i x l q ∙ none_first n (i + 1) l (omega (arith, points_more x l q)))
    (λ q. second_later n i x l q ∙ one_second n (i + 1) l (omega (arith, points-same x l q)))
    (eq_or x 46)

unpointed_none : (k : ℕ) (l : List ℕ) → points l ≡ 0 → unpointed (take k l) ≡ take k l
unpointed_none zero l e = unfold unpointed in refl
unpointed_none (suc k) [] e = unfold unpointed in refl
unpointed_none (suc k) (x ∷ l) e =
    ⊎_elim
    (λ q. absurd (omega (arith, sym (points_more x l q) ∙ e)))
    (λ q. unpointed_more x (take k l) q ∙ ap (λ (m : List ℕ). x ∷ m) (unpointed_none k l (sym (points-same x l q) ∙ e)))
    (eq_or x 46)

unpointed_one : (n i k : ℕ) (l : List ℕ) → i + length l ≤ n → points l < 2 → unpointed (take k l) ≡ without (first_at 46 n i l) i (take k l)
unpointed_one n i zero l h e = unfold unpointed without in refl
unpointed_one n i (suc k) [] h e = unfold unpointed without in refl
unpointed_one n i (suc k) (x ∷ l) h e =
    let w : i + 1 + length l ≤ n = omega arith in
    ⊎_elim
    (λ q.
    rw (first_here 46 n i x l q, without_here i i x (take k l) refl)
    (unpointed_less x (take k l) q ∙ unpointed_none k l (omega (arith, points_more x l q))))
    (λ q.
    let f = first_low 46 n (i + 1) l w in
    rw (first_later 46 n i x l q, without_later (first_at 46 n (i + 1) l) i x (take k l) (omega arith))
    (unpointed_more x (take k l) q ∙ ap (λ (m : List ℕ). x ∷ m) (unpointed_one n (i + 1) k l w (omega (arith, points-same x l q)))))
    (eq_or x 46)

length_one : (n i : ℕ) (l : List ℕ) → i + length l ≤ n → length (without (first_at 46 n i l) i l) + min 1 (points l) ≡ length l
length_one n i [] h = unfold without points in refl
length_one n i (x ∷ l) h =
    let w : i + 1 + length l ≤ n = omega arith in
    ⊎_elim
    (λ q. rw (first_here 46 n i x l q, without_here i i x l refl, points_more x l q) (omega arith))
    (λ q.
    let f = first_low 46 n (i + 1) l w in
    rw (first_later 46 n i x l q, without_later (first_at 46 n (i + 1) l) i x l (omega arith), points-same x l q)
    (omega (arith, length_one n (i + 1) l w)))
    (eq_or x 46)

-- ---- plain bytes

without-plain : (p i : ℕ) (l : List ℕ) → all_plain l ≡ true → all_plain (without p i l) ≡ true
unfolding all_plain
without-plain p i [] e = unfold without in refl
without-plain p i (x ∷ l) e =
    let b = both (is_plain x) (all_plain l) e in
    let h = without-plain p (i + 1) l b.1 in
    ⊎_elim (λ q. rw (without_skip p i x l q) h) (λ q. rw (without-take p i x l q, b.0, h)) (eq_or i p)

plain_parts : (a b : List ℕ) → all_plain (a ++ b) ≡ true → (all_plain a ≡ true) × (all_plain b ≡ true)
unfolding all_plain
plain_parts [] b e = (refl, e)
plain_parts (x ∷ a) b e =
    let h = both (is_plain x) (all_plain (a ++ b)) e in
    let r = plain_parts a b h.1 in (both_of (is_plain x) (all_plain a) h.0 r.0, r.1)

plain_digits : (l : List ℕ) → all_plain l ≡ true → holds 46 l ≡ false → all_digits l ≡ true
unfolding all_plain all_digits
plain_digits [] p e = refl
plain_digits (x ∷ l) p e =
    let h = both (is_plain x) (all_plain l) p in
    ⊎_elim
    (λ d. let n = digit_no_point x d in both_of (is_digit x) (all_digits l) d (plain_digits l h.1 (sym (holds_later 46 x l n) ∙ e)))
    (λ q. absurd (true≢false (sym (holds_here 46 x l q) ∙ e)))
    (plain_or x h.0)

-- the bytes up to t are digits where the second point is not among them
pub walked_digits : (s : List ℕ) (i t : ℕ) (stop : ℕ) (found : Found) → Walked s i stop found → i ≤ t → t ≤ stop → t ≤ found.second → all_digits (run found.point i t s) ≡ true
walked_digits s i t stop found w h k l =
    let p = found.point in
    let e = run_parts p i t stop s h k w.within in
    plain_digits (run p i t s) (plain_parts (run p i t s) (run p t stop s) (rw e at w.plain)).0 (w.second t h k ∙ le-ltb _ _ l)

-- ---- what is scanned can be walked

module _ (s : List ℕ) (start : ℕ) (stop : ℕ) (found : Found) (c : Scanned s start stop found) (h : start ≤ length s) where
  abbrev pub part : List ℕ
  part = decimals (drop start s)

  pub fits : start + length part ≤ length s
  fits = omega (arith, decimals-length (drop start s), length-drop start s)

  pub stop_low : start ≤ stop
  stop_low = omega (arith, c.stops)

  pub stop_within : stop ≤ length s
  stop_within = rw c.stops fits

  pub points_width : found.points ≤ stop - start
  points_width = omega (arith, points_few part, c.points, c.stops)

  pub fraction_few : stop - (found.point + 1) ≤ stop - start
  fraction_few = omega (arith, first_low 46 (length s) start part fits, c.point)

  part_slice : part ≡ slice start stop s
  part_slice = decimals-slice s start ∙ rw c.stops

  slice-take : (t : ℕ) → start ≤ t → t ≤ stop → slice start t s ≡ take (t - start) part
  slice-take t k l =
      let e : start + (t - start) ≡ t = omega arith in
      sym (ap (take (t - start)) part_slice ∙ take-drop start (t - start) (take stop s) ∙ rw (e, take-take))

  run_part : (t : ℕ) → start ≤ t → t ≤ stop → run found.point start t s ≡ without (first_at 46 (length s) start part) start (take (t - start) part)
  unfolding run
  run_part t k l = rw (c.point, slice-take t k l)

  pub run_whole : run found.point start stop s ≡ without (first_at 46 (length s) start part) start part
  unfolding run
  run_whole = rw (c.point, ← part_slice)

  pub walked : Walked s start stop found
  walked =
      record {
        ordered = stop_low;
        within = stop_within;
        plain = rw run_whole (without-plain _ start part (decimals_all (drop start s)));
        second = λ t k l. ap (holds 46) (run_part t k l) ∙ (let e : start + (t - start) ≡ t = omega arith in holds-second (length s) start (t - start) part fits (omega (arith, c.stops)) ∙ rw (e, c.second));
      }

  module _ (o : found.points < 2) where
    one : points part < 2
    one = rw c.points at o

    pub short-digits : (t : ℕ) → start ≤ t → t ≤ stop → all_digits (run found.point start t s) ≡ true
    short-digits t k l =
        walked_digits s start t stop found walked k l (omega (arith, stop_within, c.second, one_second (length s) start part one))

    pub short-value : (t : ℕ) → start ≤ t → t ≤ stop → unpointed (slice start t s) ≡ run found.point start t s
    short-value t k l = rw (run_part t k l, slice-take t k l) (unpointed_one (length s) start (t - start) part fits one)

    pub short-length : length (run found.point start stop s) ≡ stop - start - found.points
    short-length = rw run_whole (omega (arith, length_one (length s) start part fits, c.stops, c.points))

-- ---- what is walked can be walked from after its zeros

strip_zeros_lem : (a b : List ℕ) → strip_zeros (a ++ b) ≡ b → all_zeros a ≡ true
unfolding strip_zeros all_zeros
strip_zeros_lem [] b e = refl
strip_zeros_lem (x ∷ a) b e =
    ⊎_elim
    (λ q. rw q (strip_zeros_lem a b (rw q at e)))
    (λ q. absurd (omega (arith, length-append a b, ap length (rw q at e))))
    (cases_Bool (eqb x 48))

zeros_hold : (a b : List ℕ) → all_zeros a ≡ true → holds 46 (a ++ b) ≡ holds 46 b
unfolding all_zeros
zeros_hold [] b e = refl
zeros_hold (x ∷ a) b e =
    let h = both (eqb x 48) (all_zeros a) e in
    holds_later 46 x (a ++ b) (λ q. omega (arith, eqb-true x 48 h.0)) ∙ zeros_hold a b h.1

module _ (s : List ℕ) (i : ℕ) (stop : ℕ) (found : Found) (w : Walked s i stop found) (r : ℕ) (z : ZerosTo found.point i stop s r) where
  pub walked_from : Walked s r stop found
  walked_from =
      let p = found.point in
      let e = run_parts p i r stop s z.after z.within w.within in
      let a = strip_zeros_lem (run p i r s) (run p r stop s) (rw e at z.strip) in
      record {
        ordered = z.within;
        within = w.within;
        plain = (plain_parts (run p i r s) (run p r stop s) (rw e at w.plain)).1;
        second = λ t k l. sym (zeros_hold (run p i r s) (run p r t s) a) ∙ sym (ap (holds 46) (run_parts p i r t s z.after k (omega (arith, w.within)))) ∙ w.second t (omega (arith, z.after)) l;
      }
