-- The places of a text's refusals, by what the pass over its decimal part found.
use mathlib.Core.Path.{◌≡◌, refl, sym, ap, ◌∙◌}
use mathlib.Core.Logic.{inl, inr, ⊎_elim}
use mathlib.Core.Bool.{Bool, false, true≢false}
use mathlib.Core.List.{List, [], ◌∷◌, ◌++◌, map}
use Prim.Native.Nat.{ℕ, ◌+◌, ◌-◌, ◌≤◌, ◌<◌, min}
use native.Mathlib.Omega.{arith}
use lib.Dec.{eqb}
use lib.ListN.{length, get_or, drop, length-append, length-drop, length-map}
use borrow.Author.Tests.{eqb-true, eq-eqb, ne_eqb, le-leb, lt-leb}
use Rattle.meaning.specs.Reading.{refused_at, lower, before, from, fraction, strip_zeros, all_zeros, run_of, the_e, after_e, sign_length, decimal_of, second_point, plain_bytes, wrong_byte, last_bytes, first_cut, decimal_part, step3}
use Rattle.meaning.proofs.Numbers.{by_test, eq_or, le_or}
use Rattle.meaning.proofs.Accepted.{parted}
use Rattle.meaning.proofs.Places.{decimal-signed, decimal_unsigned, decimal_ends, after_is}
use Rattle.reading.specs.declared.scan.Found.{Found}
use Rattle.reading.specs.Scan.{is_plain, decimals, first_at, second_at, Scanned}
use Rattle.reading.specs.Run.{run, counted, Offset, ZerosTo}
use Rattle.reading.specs.Parted.{behind, place_for, Parted, Placed}
use Rattle.reading.specs.Split.{start_of, wrong_for}
use Rattle.reading.specs.Told.{named}
use Rattle.reading.proofs.Bytes.{decimals_more, decimals_none, first_here, first_later, second_next, second_later}
use Rattle.reading.proofs.Lower.{lower-plain}
use Rattle.reading.proofs.Walk.{run_parts, run_rest, length_run, counted_apart, counted_across, zeros_not}
use Rattle.reading.proofs.Split.{before-plain, first_length, without_first, step3_wrong}
use Rattle.reading.proofs.Points.{part, fits, stop_within, run_whole}
use Rattle.std.proofs.lemmas.Bool.{cases_Bool}

-- ---- the sign and the decimal part

pub sign_is : (s : List ℕ) → 0 < length s → sign_length s ≡ start_of (get_or s 0 0)
unfolding sign_length
sign_is [] h = absurd (omega arith)
sign_is (b ∷ s) h = refl

decimal_is : (s : List ℕ) → decimal_of s ≡ before 101 (map lower (drop (sign_length s) s))
decimal_is [] = unfold before sign_length in refl
decimal_is (b ∷ s) =
    by_test (eqb b 45)
    (λ e. sym (decimal-signed b s (inl (eqb-true b 45 e))) ∙ unfold sign_length in rw e)
    (λ e. by_test (eqb b 43)
    (λ f. sym (decimal-signed b s (inr (eqb-true b 43 f))) ∙ unfold sign_length in rw (e, f))
    (λ f. sym (decimal_unsigned b s e f) ∙ unfold sign_length in rw (e, f)))

-- ---- 7: the digits and points that a decimal part begins with

plain_is : (l : List ℕ) → plain_bytes (before 101 (map lower l)) ≡ length (decimals l)
unfolding plain_bytes
plain_is [] = unfold before decimals in refl
plain_is (x ∷ l) =
    ⊎_elim
    (λ e. rw (before-plain x l e, decimals_more x l e, e) (omega (arith, plain_is l)))
    (λ e. rw (decimals_none x l e) (by_test (eqb (lower x) 101) (λ q. unfold before in rw q) (λ q. unfold before in rw (q, lower-plain x e))))
    (cases_Bool (is_plain x))

module _ (s : List ℕ) (start : ℕ) (sign : sign_length s ≡ start) where
  wrong_is : wrong_byte s ≡ start + length (decimals (drop start s))
  unfolding wrong_byte
  wrong_is = rw (decimal_is s, sign, plain_is (drop start s))

  e_is : the_e s ≡ start + length (before 101 (map lower (drop start s)))
  e_is = sym (decimal_ends s) ∙ rw (decimal_is s, sign)

  -- 1: the `e` is the last byte
  pub last_is : start ≤ length s → length (from 101 (map lower (drop start s))) ≡ 1 → the_e s ≡ length s - 1
  last_is h e =
      let t = map lower (drop start s) in
      omega (arith, e_is, ap length (parted 101 t), length-append (before 101 t) (from 101 t), length-map (drop start s) lower, length-drop start s)

  -- what stands before the `e` is the decimal part
  pub parted_at : before 101 (map lower (drop start s)) ≡ decimals (drop start s) → Parted s start
  parted_at e = record { sign = sign; decimal = decimal_is s ∙ rw (sign, e) }

  -- a wrong decimal part: 1 or 7
  module _ (h : start ≤ length s) (stop : ℕ) (e : stop ≡ start + length (decimals (drop start s))) where
    pub wrong-gives : (g : Bool) (b : List ℕ) → decimal_part false b ≡ false → step3 s g b (from 101 (map lower (drop start s))) ≡ refused_at (named (wrong_for (from 101 (map lower (drop start s))))) (place_for (wrong_for (from 101 (map lower (drop start s)))) stop s)
    wrong-gives g b w =
        let t = from 101 (map lower (drop start s)) in
        step3_wrong s g b t w
        ∙ by_test (eqb (length t) 1)
        (λ u. rw (u, last_is h (eqb-true (length t) 1 u)))
        (λ u. rw (u, wrong_is ∙ sym e))

-- 2, 4 and 5: the byte after the `e`
pub letter_is : (s : List ℕ) (start stop : ℕ) → Parted s start → stop ≡ start + length (decimals (drop start s)) → after_e s ≡ behind stop s
letter_is s start stop p e =
    let l : the_e s ≡ stop = sym (decimal_ends s) ∙ rw (p.decimal, p.sign, e) in after_is s ∙ rw l

-- ---- 3: the second point

first_place : (b n i : ℕ) (l : List ℕ) → i + length l ≤ n → i + length (before b l) ≡ min (first_at b n i l) (i + length l)
unfolding before
first_place b n i [] h = unfold first_at in omega arith
first_place b n i (x ∷ l) h =
    ⊎_elim
    (λ e. rw (eq-eqb x b e, first_here b n i x l e) (omega arith))
    (λ e. rw (ne_eqb x b e, first_later b n i x l e) (omega (arith, first_place b n (i + 1) l (omega arith))))
    (eq_or x b)

second_place : (n i : ℕ) (l : List ℕ) → i + length l ≤ n → second_at n i l < i + length l → i + length (before 46 l) + 1 + length (before 46 (fraction l)) ≡ second_at n i l
unfolding before from
second_place n i [] h k = absurd (unfold second_at in omega arith)
second_place n i (x ∷ l) h k =
    ⊎_elim
    (λ e.
    let q = second_next n i x l e in
    rw (eq-eqb x 46 e, q) (omega (arith, first_place 46 n (i + 1) l (omega arith), q)))
    (λ e.
    let q = second_later n i x l e in
    rw (ne_eqb x 46 e, q) (omega (arith, second_place n (i + 1) l (omega arith) (omega (arith, q)))))
    (eq_or x 46)

-- ---- 6: the first byte other than `0` among those cut

strip_front : (a b : List ℕ) → all_zeros a ≡ false → strip_zeros (a ++ b) ≡ strip_zeros a ++ b
unfolding strip_zeros all_zeros
strip_front [] b z = absurd (true≢false z)
strip_front (x ∷ a) b z = by_test (eqb x 48) (λ e. rw e (strip_front a b (rw e at z))) (λ e. rw e)

strip_rest : (p i t stop r : ℕ) (s : List ℕ) → ZerosTo p i t s r → r < t → t ≤ stop → stop ≤ length s → strip_zeros (run p i stop s) ≡ run p r stop s
strip_rest p i t stop r s z h k l =
    ap strip_zeros (run_parts p i t stop s (omega (arith, z.after)) k l)
    ∙ strip_front (run p i t s) (run p t stop s) (zeros_not p i t r s z h)
    ∙ ap (λ (a : List ℕ). a ++ run p t stop s) z.strip
    ∙ sym (run_parts p r t stop s z.within k l)

-- a byte at r that is not the point at p: after it, with no point before the stop, and before it. F bytes stand after the
-- point, B before it or before the stop
past : (r p stop F : ℕ) → F ≡ stop - (p + 1) → p + 1 ≤ r → stop - r ≤ F
past r p stop F f k = omega arith

not_at : (r p : ℕ) → r < p + 1 → (r ≡ p → ⊥) → r < p
not_at r p k n = omega (arith, n)

unpointed : (start r p stop F B : ℕ) → F ≡ stop - (p + 1) → start + B ≡ min p stop → start ≤ r → r < stop → stop ≤ p → (F < stop - r) × (start + (B + F - (stop - r)) ≡ r)
unpointed start r p stop F B f g a b l = (omega arith, omega arith)

across : (start r p stop F B : ℕ) → F ≡ stop - (p + 1) → start + B ≡ min p stop → start ≤ r → r < p → p < stop → (F < stop - r - 1) × (start + (B + F - (stop - r - 1)) ≡ r)
across start r p stop F B f g a m l = (omega arith, omega arith)

module _ (s : List ℕ) (start : ℕ) (stop : ℕ) (found : Found) (c : Scanned s start stop found) (h : start ≤ length s) where
  abbrev dec : List ℕ
  dec = part s start stop found c h

  pub after_point : length (fraction dec) ≡ stop - (found.point + 1)
  after_point =
      length-drop 1 (from 46 dec)
      ∙ omega (arith, first_length 46 (length s) start dec (fits s start stop found c h), c.stops, c.point)

  -- the point, or the stop where there is none
  before_point : start + length (before 46 dec) ≡ min found.point stop
  before_point = first_place 46 (length s) start dec (fits s start stop found c h) ∙ rw (c.point, c.stops)

  -- a byte of the run by how many there are from it on
  last_at : (r : ℕ) → start ≤ r → r < stop → (r ≡ found.point → ⊥) → start + last_bytes (counted found.point r stop) dec ≡ r
  unfolding last_bytes
  last_at r a b n =
      let p = found.point in
      let F = length (fraction dec) in
      let B = length (before 46 dec) in
      ⊎_elim
      (λ k. rw (counted_apart p r stop (inl (omega (arith, k))), le-leb (stop - r) F (past r p stop F after_point k)) (omega (arith, c.stops)))
      (λ k.
      ⊎_elim
      (λ l.
      let h = unpointed start r p stop F B after_point before_point a b l in
      rw (counted_apart p r stop (inr l), lt-leb (stop - r) F h.0) h.1)
      (λ l.
      let m = not_at r p k n in
      let h = across start r p stop F B after_point before_point a m l in
      rw (counted_across p r stop (omega (arith, m)) l, lt-leb (stop - r - 1) F h.0) h.1)
      (le_or stop p))
      (le_or (p + 1) r)

  module _ (q : Parted s start) (first : ℕ) (z : ZerosTo found.point start stop s first) where
    run_is : run_of (decimal_of s) ≡ run found.point first stop s
    run_is =
        rw q.decimal
        (ap strip_zeros (sym (without_first (length s) start dec (fits s start stop found c h)) ∙ sym (run_whole s start stop found c h)) ∙ z.strip)

    cut-is : (n i t r : ℕ) → Offset found.point first n i → t ≤ stop → ZerosTo found.point i t s r → r < t → first_cut n s ≡ r
    unfolding first_cut
    cut-is n i t r o k y l =
        let p = found.point in
        let w = stop_within s start stop found c h in
        let j : i ≤ stop = omega (arith, y.after) in
        let m : n ≤ length (run p first stop s) =
        rw (run_parts p first i stop s o.after j w)
        (omega (arith, length-append (run p first i s) (run p i stop s), length_run p first i s o.after (omega arith), o.count)) in
        let u : strip_zeros (drop n (run_of (decimal_of s))) ≡ run p r stop s =
        ap (λ (a : List ℕ). strip_zeros (drop n a)) run_is
        ∙ ap strip_zeros (run_rest p first n i stop s o z.within w m)
        ∙ strip_rest p i t stop r s y l k w in
        rw (u, length_run p r stop s (omega arith) w, q.decimal, q.sign)
        (last_at r (omega (arith, z.after, o.after, y.after)) (omega arith) (y.apart l))

    pub placed : Placed s first stop found
    unfolding second_point
    placed =
        record {
          letter = letter_is s start stop q c.stops;
          second = λ k. rw (q.decimal, q.sign) (second_place (length s) start dec (fits s start stop found c h) (omega (arith, c.second, c.stops)) ∙ sym c.second);
          cut = cut-is;
        }
