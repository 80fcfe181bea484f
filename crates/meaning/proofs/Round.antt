-- Writing a value and reading it again gives the value.
use mathlib.Core.Path.{◌≡◌, refl, sym, ◌∙◌}
use mathlib.Core.Logic.{inl, inr, ⊎_elim}
use mathlib.Core.Bool.{Bool, true, false}
use mathlib.Core.List.{List, [], ◌∷◌, ◌++◌, append-nil}
use Prim.Native.Nat.{ℕ, ◌+◌, ◌-◌, ◌^◌, ◌≤◌, ◌<◌, min}
use native.Mathlib.Nat.{pow-zero, mul-one, sub_self, zero-mul, zero-add, lt_of_lt_of_le}
use native.Mathlib.Omega.{arith}
use lib.Dec.{lit≤}
use lib.ListN.{length, take, drop, replicate, length-append, length-drop, length-replicate, take-append-drop}
use lib.Seq.{take_all}
use borrow.Author.Tests.{le-leb, lt-leb, lt-ltb, le-ltb, eq-eqb, ne_eqb}
use Rattle.meaning.specs.Decimal.Decimal.{nan, infinity, finite}
use Rattle.meaning.specs.Reading.{Reading, number, all_digits, origin, low, high, bytes, read_text, read_at, step2, same}
use Rattle.meaning.specs.Reading.Reading.{accepted}
use Rattle.meaning.specs.Writing.{decimal, exponent_text, exponential, plain, magnitude, signed, write_text}
use Rattle.meaning.specs.Grammar.{Sign, Fraction, Power, FiniteText, WrittenE, Stores, SameValue, sign_text, negative, fraction_text, after, power_text}
use Rattle.meaning.specs.Grammar.Sign.{none, plus, minus}
use Rattle.meaning.specs.Grammar.Fraction.{no_point, point}
use Rattle.meaning.specs.Grammar.Power.{no_power, power}
use Rattle.meaning.specs.Promises.{ReadsWhatWasWritten}
use Rattle.meaning.proofs.Numbers.{le_or, digits_append, digits_zeros, zeros_zeros, number_cons, number_split, zeros_number}
use Rattle.meaning.proofs.Digits.{decimal_all, decimal-number, decimal_some, few}
use Rattle.meaning.proofs.Stored.{Outcome, range}
use Rattle.meaning.proofs.Grammar.{outcome}

-- ---- what can be stored as it is written is kept as it is

same_self : (a c x : ℕ) → SameValue a x c x → a ≡ c
same_self a c x p =
    let m : min x x ≡ x = omega arith in rw (m, sub_self, pow-zero, mul-one, mul-one) at p

exact : (sign : Bool) (a x : ℕ) (r : Reading) → a < 10 ^ 34 → low ≤ x → x ≤ high → Outcome sign a x r → r ≡ accepted (finite sign (x - low) a)
unfolding Outcome
exact sign a x r s l u o =
    let st : Stores a x a x = record { small = s; above = l; below = u; same = refl } in
    ⊎_elim
    (λ k.
    let d = k.1.nearest a x st in
    let e : k.1.field + low ≡ x = omega arith in
    let f : k.1.field ≡ x - low = omega arith in
    let g = same_self a k.1.coefficient x (rw e at k.1.stores.same) in
    k.1.is ∙ rw (← g, f))
    (λ k. absurd (k.0 (⊎_elim (λ z. inr (a, x, z, st)) (λ z. inl (omega arith)) (le_or 1 a))))
    o

-- ---- a text by the grammar with its value c·10^x

record Says (text : List ℕ) (c x : ℕ) : Type 0 where
  whole : List ℕ
  frac : Fraction
  pow : Power
  is : text ≡ whole ++ fraction_text frac ++ power_text pow
  digits : all_digits (whole ++ after frac) ≡ true
  some : 1 ≤ length (whole ++ after frac)
  written : WrittenE pow (x + length (after frac))
  value : number 0 (whole ++ after frac) ≡ c

abbrev sign_of : Bool → Sign
sign_of true = minus
sign_of false = none

read_back : (s : Bool) (text : List ℕ) (c x : ℕ) → c < 10 ^ 34 → low ≤ x → x ≤ high → Says text c x → read_text (signed s text) ≡ accepted (finite s (x - low) c)
read_back s text c x h l u k = go s
  where
    read : (s : Sign) → read_text (sign_text s ++ k.whole ++ fraction_text k.frac ++ power_text k.pow) ≡ accepted (finite (negative s) (x - low) c)
    read s =
        let t : FiniteText = record { sign = s; whole = k.whole; fraction = k.frac; power = k.pow } in
        let o = outcome t x (record { digits = k.digits; some = k.some; written = k.written }) in
        exact (negative s) c x _ h l u (rw k.value at o)

    go : (s : Bool) → read_text (signed s text) ≡ accepted (finite s (x - low) c)
    go true = rw k.is (read minus)
    go false = rw k.is (read none)

-- ---- the two notations

origin-low : origin ≡ low + 6176
unfolding origin low
origin-low = refl

origin_big : 10 ^ 5 ≤ origin
unfolding origin
origin_big = lit≤ tt

-- the exponent that is written is a - 6177
written_power : (a e : ℕ) → e + 6177 ≡ a + origin → a < 10 ^ 5 → (w : Power) × (power_text w ≡ 69 ∷ exponent_text a) × WrittenE w e
written_power a e p b =
    ⊎_elim
    (λ g. let n = a - 6177 in let s = small-fits (a - 6177) (omega arith) in
    let v = decimal-number n s in
    let q : e ≡ origin + number 0 (decimal n) = omega arith in (
      power true plus (decimal n),
      rw (lt-ltb 6177 a g),
      (decimal_some n s, decimal_all n s, (q, omega (arith, origin_big))),
    ))
    (λ g. ⊎_elim
    (λ k. let n = 6177 - a in let s = small-fits (6177 - a) (omega arith) in
    let v = decimal-number n s in
    let q : e + number 0 (decimal n) ≡ origin = omega arith in (
      power true minus (decimal n),
      rw (le-ltb 6177 a (omega arith), lt-ltb a 6177 (omega arith)),
      (decimal_some n s, decimal_all n s, q),
    ))
    (λ k. let s = small-fits 0 (omega arith) in
    let v = decimal-number 0 s in
    let q : e ≡ origin + number 0 (decimal 0) = omega arith in (
      power true none (decimal 0),
      rw (le-ltb 6177 a (omega arith), le-ltb a 6177 (omega arith)),
      (decimal_some 0 s, decimal_all 0 s, (q, omega (arith, origin_big))),
    ))
    (le_or (a + 1) 6177))
    (le_or 6178 a)
  where
    small-fits : (n : ℕ) → n < 10 ^ 5 → n < 10 ^ 34
    small-fits n h = lt_of_lt_of_le h (lit≤ tt)

module _ (ds : List ℕ) (c f : ℕ) (dg : all_digits ds ≡ true) (v : number 0 ds ≡ c) (sm : 1 ≤ length ds) (fw : length ds ≤ 34) (fb : f ≤ 12287) where
  plain_says : f ≤ 6176 → Says (plain ds (6176 - f)) c (f + low)
  plain_says h =
      ⊎_elim
      (λ z. rw (eq-eqb (6176 - f) 0 (omega arith))
      (record {
        whole = ds;
        frac = no_point;
        pow = no_power;
        is = sym (append-nil (ds ++ []) ∙ append-nil ds);
        digits = rw append-nil dg;
        some = rw append-nil sm;
        written = omega (arith, origin-low);
        value = rw append-nil v;
      }))
      (λ z.
      ⊎_elim
      (λ l. rw (ne_eqb (6176 - f) 0 (λ e. omega arith), le-leb (length ds) (6176 - f) l)
      (let pad : List ℕ = replicate (6176 - f - length ds) 48 in
      let len : length (pad ++ ds) ≡ 6176 - f = simp (length-append, length-replicate) (omega arith) in
      record {
        whole = 48 ∷ [];
        frac = point (pad ++ ds);
        pow = no_power;
        is = sym (append-nil _);
        digits = digits_append (48 ∷ []) (pad ++ ds) (unfold all_digits in refl) (digits_append pad ds (digits_zeros (6176 - f - length ds)) dg);
        some = omega arith;
        written = omega (arith, origin-low, len);
        value = number_cons 48 (pad ++ ds) ∙ rw (number_split pad ds, zeros_number pad (zeros_zeros (6176 - f - length ds))) (simp (zero-mul, zero-add) v);
      }))
      (λ l. rw (ne_eqb (6176 - f) 0 (λ e. omega arith), lt-leb (length ds) (6176 - f) l)
      (let n = length ds - (6176 - f) in
      let len : length (drop n ds) ≡ 6176 - f = simp length-drop (omega arith) in
      record {
        whole = take n ds;
        frac = point (drop n ds);
        pow = no_power;
        is = sym (append-nil _);
        digits = rw take-append-drop dg;
        some = rw take-append-drop sm;
        written = omega (arith, origin-low, len);
        value = rw take-append-drop v;
      }))
      (le_or (length ds) (6176 - f)))
      (le_or 6176 f)

  module _ (w : Power) (is : power_text w ≡ 69 ∷ exponent_text (f + length ds)) where
    with-point : 1 < length ds → WrittenE w (f + low + length (drop 1 ds)) → Says (exponential ds f) c (f + low)
    with-point g e =
        rw (lt-ltb 1 (length ds) g)
        (record { whole = take 1 ds; frac = point (drop 1 ds); pow = w; is = rw is; digits = rw take-append-drop dg; some = rw take-append-drop sm; written = e; value = rw take-append-drop v })

    one-digit : length ds ≤ 1 → WrittenE w (f + low + 0) → Says (exponential ds f) c (f + low)
    one-digit g e =
        let t : take 1 ds ≡ ds = take_all 1 ds g in
        rw (le-ltb 1 (length ds) g)
        (record { whole = take 1 ds; frac = no_point; pow = w; is = rw is; digits = rw (append-nil, t) dg; some = rw (append-nil, t) sm; written = e; value = rw (append-nil, t) v })

  exponential_says : Says (exponential ds f) c (f + low)
  exponential_says =
      ⊎_elim
      (λ g.
      let w = written_power (f + length ds) (f + low + length (drop 1 ds)) (omega (arith, origin-low, length-drop 1 ds)) (omega arith) in
      with-point w.0 w.1 g w.2)
      (λ g.
      let w = written_power (f + length ds) (f + low + 0) (omega (arith, origin-low)) (omega arith) in
      one-digit w.0 w.1 (omega arith) w.2)
      (le_or 2 (length ds))

  magnitude_says : Says (magnitude ds f) c (f + low)
  unfolding magnitude
  magnitude_says =
      ⊎_elim
      (λ p. ⊎_elim
      (λ q. rw (le-leb f 6176 p, le-leb 6171 (f + length ds) q) (plain_says p))
      (λ q. rw (le-leb f 6176 p, lt-leb 6171 (f + length ds) q) exponential_says)
      (le_or 6171 (f + length ds)))
      (λ p. rw (lt-leb f 6176 p) exponential_says)
      (le_or f 6176)

finite_back : (s : Bool) (e c : ℕ) → e ≤ 12287 → c < 10 ^ 34 → read_text (signed s (magnitude (decimal c) e)) ≡ accepted (finite s e c)
finite_back s e c b h =
    let k = magnitude_says (decimal c) c e (decimal_all c h) (decimal-number c h) (decimal_some c h) (few c 33 h) b in
    let q : e + low - low ≡ e = omega arith in
    read_back s (magnitude (decimal c) e) c (e + low) h (omega arith) (omega (arith, range)) k ∙ rw q

pub reads_what_was_written : ReadsWhatWasWritten
unfolding write_text read_at step2 same bytes
reads_what_was_written (nan s q) h = refl
reads_what_was_written (infinity true) h = refl
reads_what_was_written (infinity false) h = refl
reads_what_was_written (finite s e c) h = finite_back s e c h.0 h.1
