-- One step of the pass over the decimal part, its start and its end.
use mathlib.Core.Path.{◌≡◌, refl, sym, ap, ◌∙◌}
use mathlib.Core.Logic.{⊎_elim}
use mathlib.Core.Bool.{true, cond}
use mathlib.Core.List.{List, [], ◌∷◌, ◌++◌}
use Prim.Native.Nat.{ℕ, zero, suc, ◌+◌, ◌-◌, ◌*◌, ◌^◌, ◌≤◌, ◌<◌}
use native.Mathlib.Nat.{pow-suc, sub_self, pow-zero, lt_of_lt_of_le}
use native.Mathlib.Omega.{arith}
use lib.Dec.{eqb}
use lib.ListN.{length, get_or, drop, drop_of_length-le}
use lib.Seq.{slice, slice_empty}
use borrow.Author.Tests.{ne_eqb}
use Rattle.meaning.specs.Reading.{is_digit, number}
use Rattle.meaning.proofs.Numbers.{le_or, byte_digit, number_append, pow-le, eq_or}
use Rattle.reading.specs.declared.scan.Found.{Found}
use Rattle.reading.specs.Scan.{is_plain, decimals, first_at, second_at, points, unpointed, none_found, with_digit, with_point, Stopped, Scanned}
use Rattle.reading.proofs.Bytes.{cond_same, slice_more, digit_plain, point_plain, digit_no_point, decimals_more, decimals_none, points_more, points-same, unpointed_less, unpointed_more, first_here, first_later, second_next, second_later}
use Rattle.std.proofs.lemmas.List.{drop_more}

-- ---- the pass

-- at offset i: what it has found, and finds in the decimal part that is left, is what there is from start on
pub record Passing (s : List ℕ) (start i : ℕ) (m : Found) : Type 0 where
  pub after : start ≤ i
  pub within : i ≤ length s
  pub few : m.points ≤ i
  pub stop : i + length (decimals (drop i s)) ≡ start + length (decimals (drop start s))
  pub points : m.points + points (decimals (drop i s)) ≡ points (decimals (drop start s))
  pub point : cond (eqb m.points 0) (first_at 46 m.point i (decimals (drop i s))) m.point ≡ first_at 46 (length s) start (decimals (drop start s))
  pub second : cond (eqb m.points 0) (second_at m.second i (decimals (drop i s))) (cond (eqb m.points 1) (first_at 46 m.second i (decimals (drop i s))) m.second) ≡ second_at (length s) start (decimals (drop start s))

-- the value is that of the digits up to i
pub record Added (s : List ℕ) (start i : ℕ) (m : Found) : Type 0 where
  pub value : m.value ≡ number 0 (unpointed (slice start i s))
  pub small : m.value < 10 ^ (i - start)

-- ---- the decimal part

decimals-plain : (s : List ℕ) (i : ℕ) → i < length s → is_plain (get_or s i 0) ≡ true → decimals (drop i s) ≡ get_or s i 0 ∷ decimals (drop (i + 1) s)
decimals-plain s i h e = rw (drop_more s i 0 h) (decimals_more (get_or s i 0) (drop (i + 1) s) e)

decimals_stop : (s : List ℕ) (i : ℕ) → Stopped s i → decimals (drop i s) ≡ []
unfolding decimals
decimals_stop s i t =
    ⊎_elim (λ l. rw (drop_of_length-le s l)) (λ h. rw (drop_more s i 0 h) (decimals_none (get_or s i 0) (drop (i + 1) s) (t h))) (le_or (length s) i)

-- ---- the pass

pub passing_none : (s : List ℕ) (start : ℕ) → start ≤ length s → Passing s start start (none_found (length s))
passing_none s start h =
    record { after = omega arith; within = h; few = omega arith; stop = refl; points = omega arith; point = refl; second = refl }

-- the second point, after the first one or a later one
second-after : (k i r : ℕ) (l : List ℕ) → cond (eqb (k + 1) 0) (second_at (cond (eqb k 1) i r) (i + 1) l) (cond (eqb (k + 1) 1) (first_at 46 (cond (eqb k 1) i r) (i + 1) l) (cond (eqb k 1) i r)) ≡ cond (eqb k 0) (first_at 46 r (i + 1) l) (cond (eqb k 1) i r)
second-after zero i r l = refl
second-after (suc k) i r l =
    simp (ne_eqb (suc k) 0 (λ z. omega arith), ne_eqb (suc k + 1) 0 (λ z. omega arith), ne_eqb (suc k + 1) 1 (λ z. omega arith))

module _ (s : List ℕ) (start i : ℕ) (m : Found) (p : Passing s start i m) (h : i < length s) where
  pub passing_digit : (v : ℕ) → is_digit (get_or s i 0) ≡ true → Passing s start (i + 1) (record { point = m.point; second = m.second; points = m.points; value = v })
  passing_digit v d =
      let b = get_or s i 0 in
      let l = decimals (drop (i + 1) s) in
      let e = decimals-plain s i h (digit_plain b d) in
      let n = digit_no_point b d in
      record {
        after = omega (arith, p.after);
        within = omega arith;
        few = omega (arith, p.few);
        stop = omega (arith, rw e at p.stop);
        points = rw (e, points-same b l n) at p.points;
        point = rw (e, first_later 46 m.point i b l n) at p.point;
        second = rw (e, second_later m.second i b l n, first_later 46 m.second i b l n) at p.second;
      }

  pub passing_point : get_or s i 0 ≡ 46 → Passing s start (i + 1) (with_point m i)
  passing_point d =
      let b = get_or s i 0 in
      let l = decimals (drop (i + 1) s) in
      let e = decimals-plain s i h (point_plain b d) in
      record {
        after = omega (arith, p.after);
        within = omega arith;
        few = omega (arith, p.few, p.after);
        stop = omega (arith, rw e at p.stop);
        points = omega (arith, rw (e, points_more b l d) at p.points);
        point = rw (ne_eqb (m.points + 1) 0 (λ z. omega arith)) (rw (e, first_here 46 m.point i b l d) at p.point);
        second = second-after m.points i m.second l ∙ (rw (e, second_next m.second i b l d, first_here 46 m.second i b l d) at p.second);
      }

-- what a pass has found where it ends
pub record Ended (s : List ℕ) (start i : ℕ) (m : Found) : Type 0 where
  pub stop : i ≡ start + length (decimals (drop start s))
  pub points : m.points ≡ points (decimals (drop start s))
  pub point : m.point ≡ first_at 46 (length s) start (decimals (drop start s))
  pub second : m.second ≡ second_at (length s) start (decimals (drop start s))

passing_end : (s : List ℕ) (start i : ℕ) (m : Found) → Passing s start i m → Stopped s i → Ended s start i m
unfolding first_at second_at points
passing_end s start i m p t =
    let e = decimals_stop s i t in
    record {
      stop = omega (arith, rw e at p.stop);
      points = omega (arith, rw e at p.points);
      point = sym (cond_same (eqb m.points 0) m.point) ∙ (rw e at p.point);
      second =
          sym (ap (λ (k : ℕ). cond (eqb m.points 0) m.second k) (cond_same (eqb m.points 1) m.second)
          ∙ cond_same (eqb m.points 0) m.second)
          ∙ (rw e at p.second);
    }

-- ---- the value of the first bytes

unpointed-append : (a b : List ℕ) → unpointed (a ++ b) ≡ unpointed a ++ unpointed b
unpointed-append [] b = unfold unpointed in refl
unpointed-append (x ∷ a) b =
    ⊎_elim
    (λ e. rw (unpointed_less x (a ++ b) e, unpointed_less x a e) (unpointed-append a b))
    (λ e. rw (unpointed_more x (a ++ b) e, unpointed_more x a e, unpointed-append a b))
    (eq_or x 46)

more_digits : (v b n k : ℕ) → v < 10 ^ n → b ≤ 57 → k ≡ suc n → v * 10 + (b - 48) < 10 ^ k
more_digits v b n k h l e = rw e (omega (arith, pow-suc 10 n))

pub added_none : (s : List ℕ) (start : ℕ) → Added s start start (none_found (length s))
unfolding unpointed number
added_none s start = record { value = rw (slice_empty start s); small = rw (sub_self, pow-zero) (omega arith) }

module _ (s : List ℕ) (start i : ℕ) (m : Found) (a : Added s start i m) (l : start ≤ i) (h : i < length s) where
  pub added_digit : is_digit (get_or s i 0) ≡ true → Added s start (i + 1) (with_digit m (get_or s i 0))
  unfolding unpointed number
  added_digit d =
      let b = get_or s i 0 in
      record {
        value = rw (slice_more s start i l h, unpointed-append, number_append, ← a.value, unpointed_more b [] (digit_no_point b d));
        small = more_digits m.value b (i - start) (i + 1 - start) a.small (byte_digit b d).1 (omega arith);
      }

  pub added_point : get_or s i 0 ≡ 46 → Added s start (i + 1) (with_point m i)
  unfolding unpointed number
  added_point d =
      let b = get_or s i 0 in
      record {
        value = rw (slice_more s start i l h, unpointed-append, number_append, ← a.value, unpointed_less b [] d);
        small = lt_of_lt_of_le a.small (pow-le (omega arith));
      }

-- ---- the pass as a whole

module _ (s : List ℕ) (start stop : ℕ) (found : Found) (p : Passing s start stop found) (t : Stopped s stop) where
  scanned_with : (length s ≤ start + 19 → found.value ≡ number 0 (unpointed (slice start stop s))) → Scanned s start stop found
  scanned_with v =
      let e = passing_end s start stop found p t in
      record { stops = e.stop; points = e.points; point = e.point; second = e.second; value = v; ended = t }

  pub scanned_short : Added s start stop found → Scanned s start stop found
  scanned_short a = scanned_with (λ _. a.value)

  pub scanned_long : start + 19 < length s → Scanned s start stop found
  scanned_long h = scanned_with (λ k. absurd (omega arith))
