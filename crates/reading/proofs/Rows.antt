-- A row of digits: the first eight of them, and each of at most eight.
use mathlib.Core.Path.{◌≡◌, refl, sym, ap, subst, ◌∙◌}
use mathlib.Core.Logic.{◌⊎◌}
use mathlib.Core.Bool.{true, ◌&&◌, and_assoc, and-true}
use mathlib.Core.List.{List, [], ◌∷◌, ◌++◌}
use Prim.Native.Nat.{ℕ, zero, suc, ◌+◌, ◌-◌, ◌*◌, ◌^◌, ◌≤◌, ◌<◌}
use native.Mathlib.Nat.{lt_of_lt_of_le, pow-zero, pow-suc}
use native.Mathlib.Numerals.{add-one}
use native.Mathlib.Omega.{arith}
use lib.Arith.{digits_lt}
use lib.Pow.{pow-add}
use lib.Dec.{lit≤}
use lib.ListN.{length, get_or, take, drop, length-append, length-drop, take-append-drop}
use lib.Seq.{slice, slice_empty, take-suc, take-length, drop-drop}
use Rattle.meaning.specs.Reading.{is_digit, number, all_digits}
use Rattle.meaning.proofs.Numbers.{pow_pos, both, byte_digit, digits_append, digits_parts, number_append, number_shift, number_lt, pow-le}
use Rattle.limbs.proofs.Laws.{none_carried}
use Rattle.reading.specs.declared.scan.Found.{Found}
use Rattle.reading.proofs.Pass.{Passing, passing_digit}
use Rattle.reading.specs.Run.{run, Row}
use Rattle.reading.proofs.Bytes.{take-drop, slice_step, slice_parts}
use Rattle.reading.proofs.Walk.{run_apart, run_across}
use Rattle.std.proofs.lemmas.List.{drop_more}

-- ---- digits passed

-- a row of digits is no more than that to the pass
module _ (s : List ℕ) (start t : ℕ) (m : Found) (l : t ≤ length s) where
  passing_row : (n i : ℕ) → i + n ≡ t → all_digits (slice i t s) ≡ true → Passing s start i m → Passing s start t m
  unfolding all_digits
  passing_row zero i e d p = let q : i ≡ t = omega arith in rw q at p
  passing_row (suc n) i e d p =
      let h = both (is_digit (get_or s i 0)) (all_digits (slice (i + 1) t s)) (rw (slice_step i t s (omega arith) l) at d) in
      passing_row n (i + 1) (omega arith) h.1 (passing_digit s start i m p (omega arith) m.value h.0)

  pub passing_on : (i : ℕ) → i ≤ t → all_digits (slice i t s) ≡ true → Passing s start i m → Passing s start t m
  passing_on i h = passing_row (t - i) i (omega arith)

digits_both : (a b : List ℕ) → (all_digits a && all_digits b) ≡ all_digits (a ++ b)
unfolding all_digits
digits_both [] b = refl
digits_both (x ∷ a) b = rw (and_assoc, digits_both a b)

-- one byte more
pub digits-more : (s : List ℕ) (i : ℕ) → i < length s → (all_digits (take i s) && is_digit (get_or s i 0)) ≡ all_digits (take (i + 1) s)
unfolding all_digits
digits-more s i h = rw (add-one, take-suc s i 0, ← digits_both, and-true)

pub row_none : (s : List ℕ) (i : ℕ) → all_digits (slice i i s) ≡ true
unfolding all_digits
row_none s i = rw (slice_empty i s)

module _ (s : List ℕ) (f i t : ℕ) (h : f ≤ i) (k : i ≤ t) (l : t ≤ length s) where
  pub row_on : all_digits (slice f i s) ≡ true → all_digits (slice i t s) ≡ true → all_digits (slice f t s) ≡ true
  row_on p q = rw (slice_parts f i t s h k l) (digits_append (slice f i s) (slice i t s) p q)

-- the bytes of s from f on are digits up to where the rest begins
pub record Passed (s : List ℕ) (f : ℕ) (rest : List ℕ) : Type 0 where
  pub few : f + length rest ≤ length s
  pub tail : rest ≡ drop (length s - length rest) s
  pub digits : all_digits (slice f (length s - length rest) s) ≡ true

pub passed_none : (s : List ℕ) (f : ℕ) (rest : List ℕ) → f ≤ length s → rest ≡ drop f s → Passed s f rest
passed_none s f rest h e =
    let n : length rest ≡ length s - f = ap length e ∙ length-drop f s in
    let i : length s - length rest ≡ f = omega arith in
    record { few = omega arith; tail = rw i e; digits = rw i (row_none s f) }

-- and so are the next eight
pub passed-more : (s : List ℕ) (f : ℕ) (rest eight others : List ℕ) → Passed s f rest → eight ≡ take 8 rest → others ≡ drop 8 rest → length others + 8 ≡ length rest → all_digits eight ≡ true → Passed s f others
passed-more s f rest eight others p e o n d =
    let i = length s - length rest in
    let j : length s - length others ≡ i + 8 = omega (arith, p.few) in
    let front : eight ≡ slice i (i + 8) s = e ∙ ap (take 8) p.tail ∙ take-drop i 8 s in
    record {
      few = omega (arith, p.few);
      tail = rw j (o ∙ ap (drop 8) p.tail ∙ rw drop-drop);
      digits = rw j (row_on s f i (i + 8) (omega (arith, p.few)) (omega arith) (omega (arith, p.few)) p.digits (rw front at d));
    }

-- ---- a row behind v

number_room : (v m : ℕ) (a : List ℕ) → all_digits a ≡ true → v < 10 ^ m → number v a < 10 ^ (m + length a)
number_room v m a d h = rw (number_shift v a, pow-add) (digits_lt h (number_lt a d))

-- what is multiplied and added for a row is the number that it makes behind v, and nothing is carried out
pub row_pushed : (l : List ℕ) (v : ℕ) → Row l v → (c : ℕ) {p by n : ℕ} → by ≡ 10 ^ length l → n ≡ number 0 l → p + 2 ^ 128 * c ≡ v * by + n → p ≡ number v l
row_pushed l v r c f g q =
    let fits : number v l < 2 ^ 128 =
    lt_of_lt_of_le (lt_of_lt_of_le (number_room v (34 - length l) l r.digits r.small) (pow-le {j = 34} (omega (arith, r.few)))) (lit≤ tt) in
    none_carried (2 ^ 128) c (q ∙ rw (f, g) (sym (number_shift v l))) fits

-- the part of a row that stands first, and the number that it makes behind v
module _ (a b : List ℕ) (v : ℕ) (r : Row (a ++ b) v) where
  parts : (all_digits a ≡ true) × (all_digits b ≡ true)
  parts = digits_parts a b r.digits

  total : length (a ++ b) ≡ length a + length b
  total = length-append a b

  pub row_first : Row a v
  row_first =
      record { digits = parts.0; few = omega (arith, total, r.few); small = lt_of_lt_of_le r.small (pow-le (omega (arith, total))) }

  pub row_rest : Row b (number v a)
  row_rest =
      let e : 34 - length b ≡ 34 - length (a ++ b) + length a = omega (arith, total, r.few) in
      record { digits = parts.1; few = omega (arith, total, r.few); small = rw e (number_room v _ a parts.0 r.small) }

-- a run is one row, or two rows with the point between them
module _ (p i t : ℕ) (s : List ℕ) (k : (i ≤ t) × (t ≤ length s)) (d : all_digits (run p i t s) ≡ true) (m : length (run p i t s) ≤ 34) where
  row-run : Row (run p i t s) 0
  row-run = record { digits = d; few = m; small = pow_pos _ }

  module _ (h : (p < i) ⊎ (t ≤ p)) where
    pub run-whole : run p i t s ≡ slice i t s
    run-whole = run_apart p i t s h k.0 k.1

    pub row-whole : Row (slice i t s) 0
    row-whole = subst (λ (l : List ℕ). Row l 0) run-whole row-run

  module _ (h : i ≤ p) (j : p < t) where
    across : run p i t s ≡ slice i p s ++ slice (p + 1) t s
    across = run_across p i t s h j k.1

    row-across : Row (slice i p s ++ slice (p + 1) t s) 0
    row-across = subst (λ (l : List ℕ). Row l 0) across row-run

    pub row_before : Row (slice i p s) 0
    row_before = row_first (slice i p s) (slice (p + 1) t s) 0 row-across

    pub row-behind : Row (slice (p + 1) t s) (number 0 (slice i p s))
    row-behind = row_rest (slice i p s) (slice (p + 1) t s) 0 row-across

    pub row-both : number (number 0 (slice i p s)) (slice (p + 1) t s) ≡ number 0 (run p i t s)
    row-both = sym (ap (number 0) across ∙ number_append 0 (slice i p s) (slice (p + 1) t s))

-- ---- eight digits of a row

module _ (l : List ℕ) (v : ℕ) (r : Row l v) where
  abbrev front : List ℕ
  front = take 8 l

  abbrev behind : List ℕ
  behind = drop 8 l

  split : front ++ behind ≡ l
  split = take-append-drop 8 l

  row-split : Row (front ++ behind) v
  row-split = subst (λ (m : List ℕ). Row m v) (sym split) r

  pub row_front : Row front v
  row_front = row_first front behind v row-split

  pub row-behind-front : Row behind (number v front)
  row-behind-front = row_rest front behind v row-split

  pub row-join : number (number v front) behind ≡ number v l
  row-join = sym (ap (number v) (sym split) ∙ number_append v front behind)

-- ---- at most eight digits, one by one

-- the digits of l up to i: their bytes as they are, what `0` adds to each, and the power of ten that makes room for them
pub record FewAt (l : List ℕ) (i sum zeros room : ℕ) : Type 0 where
  pub power : room ≡ 10 ^ i
  pub taken : 9 * zeros + 48 ≡ 48 * room
  pub added : sum ≡ zeros + number 0 (take i l)
  pub small : number 0 (take i l) < room

pub few_none : (l : List ℕ) → FewAt l 0 0 0 1
unfolding number
few_none l = record { power = rw pow-zero; taken = refl; added = refl; small = omega arith }

module _ (l : List ℕ) (c i sum zeros room : ℕ) (r : Row l c) (few : length l ≤ 8) (a : FewAt l i sum zeros room) where
  module _ (h : i < length l) where
    abbrev byte : ℕ
    byte = get_or l i 0

    few-byte : (48 ≤ byte) × (byte ≤ 57)
    unfolding all_digits
    few-byte =
        let e : l ≡ take i l ++ (byte ∷ drop (i + 1) l) = sym (take-append-drop i l) ∙ rw (drop_more l i 0 h) in
        let d = digits_parts (take i l) (byte ∷ drop (i + 1) l) (subst (λ (l : List ℕ). all_digits l ≡ true) e r.digits) in
        byte_digit _ (both (is_digit byte) _ d.1).0

    few-room : room ≤ 10000000
    few-room = rw a.power (pow-le {j = 7} (omega arith))

    pub few-bounds : (48 ≤ byte) × (byte ≤ 57) × (room ≤ 10000000) × (zeros ≤ 53333333) × (sum ≤ 63333333)
    few-bounds =
        let b = few-byte in
        let r = few-room in
        let z : zeros ≤ 53333333 = omega (arith, a.taken) in (b.0, b.1, r, z, omega (arith, a.added, a.small))

    next : number 0 (take (i + 1) l) ≡ number 0 (take i l) * 10 + (byte - 48)
    unfolding number
    next = rw (add-one, take-suc l i 0, number_append)

    pub few-more : FewAt l (i + 1) (sum * 10 + byte) (zeros * 10 + 48) (room * 10)
    few-more =
        record {
          power = rw (add-one, pow-suc, ← a.power) (omega arith);
          taken = omega (arith, a.taken);
          added = rw next (omega (arith, a.added, few-byte));
          small = rw next (omega (arith, a.small, few-byte));
        }

  -- eight digits make the most room
  pub room-most : i ≤ 8 → room ≤ 100000000
  room-most h = rw a.power (pow-le {j = 8} h)

  -- and all of them at once behind c
  pub few_end : i ≡ length l → (k : ℕ) {p by : ℕ} → by ≡ room → p + 2 ^ 128 * k ≡ c * by + (sum - zeros) → p ≡ number c l
  few_end e k m q =
      let whole : take i l ≡ l = rw e (take-length l) in
      row_pushed l c r k (m ∙ a.power ∙ ap (λ (n : ℕ). 10 ^ n) e) (omega (arith, rw whole at a.added)) q
