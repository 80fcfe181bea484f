-- Steps 7 to 11 on a run of digits: what is accepted is what can be stored, at the nearest exponent.
use mathlib.Core.Path.{◌≡◌, refl, sym, ap, ◌∙◌, subst}
use mathlib.Core.Logic.{◌⊎◌, inl, inr, ⊎_elim}
use mathlib.Core.Bool.{Bool, true, false, cond, true≢false}
use mathlib.Core.List.{List, [], ◌∷◌, ◌++◌}
use Prim.Native.Nat.{ℕ, ◌+◌, ◌-◌, ◌*◌, ◌^◌, ◌≤◌, ◌<◌, min, max}
use native.Mathlib.Nat.{add-zero, mul_assoc, mul-one, mul-le-mul_right, mul-le-mul, mul-lt-mul_of_pos_right, le_trans, lt_of_lt_of_le, pow-zero, sub_self, eq_of_mul-eq-mul_right, le_of_mul-le-mul_right, zero-mul, one-mul, le-mul_of_pos_right}
use native.Mathlib.Omega.{arith}
use lib.Pow.{pow-add}
use lib.ListN.{length, take, drop, replicate, take-append-drop, length-append, length-replicate, length-take, length-drop}
use borrow.Author.Tests.{le-leb, lt-leb}
use Rattle.meaning.specs.Reading.{Reading, refused_at, number, is_digit, all_digits, all_zeros, low, high, kept, lost, step7, step8, step9, step10, step11}
use Rattle.meaning.specs.Refusals.Refusal.{overflow, inexact_rounding}
use Rattle.meaning.specs.Decimal.Decimal.{finite}
use Rattle.meaning.specs.Reading.Reading.{refused, accepted}
use Rattle.meaning.specs.Grammar.{Stores, Storable, Kept, SameValue, distance}
use Rattle.meaning.proofs.Numbers.{both, le_or, pow_pos, pow-le, digits_append, digits_split, digits_zeros, zeros_zeros, no_point, number_split, number_lt, number_ge, zeros_number, multiple_zeros, Leading, byte_digit}

-- ---- one value at two exponents

module _ (a x c e : ℕ) where
  pub same_up : x ≤ e → a ≡ c * 10 ^ (e - x) → SameValue a x c e
  same_up h p =
      let m : min x e ≡ x = omega arith in
      rw (m, sub_self, pow-zero, mul-one) p

  pub up_same : x ≤ e → SameValue a x c e → a ≡ c * 10 ^ (e - x)
  up_same h p =
      let m : min x e ≡ x = omega arith in
      rw (m, sub_self, pow-zero, mul-one) at p

  pub same_down : e ≤ x → c ≡ a * 10 ^ (x - e) → SameValue a x c e
  same_down h p =
      let m : min x e ≡ e = omega arith in
      rw (m, sub_self, pow-zero, mul-one) (sym p)

  pub down_same : e ≤ x → SameValue a x c e → c ≡ a * 10 ^ (x - e)
  down_same h p =
      let m : min x e ≡ e = omega arith in
      sym (rw (m, sub_self, pow-zero, mul-one) at p)

-- omega stops at numbers of more than 38 digits, so 2^127 stays shut
pub range : high ≡ low + 12287
unfolding low high
range = refl

-- what is said of a reading r
unfoldable pub Outcome : Bool → ℕ → ℕ → Reading → Type 0
Outcome sign a x r =
    (Storable a x × Kept sign a x r) ⊎ ((Storable a x → ⊥) × ((r ≡ refused overflow) ⊎ (r ≡ refused inexact_rounding)))

-- the run at y has the value of a at x; k + 1 is its length, and its first digit is not 0
pub record Run (a x y : ℕ) (run : List ℕ) : Type 0 where
  pub k : ℕ
  pub raised : x ≤ y
  pub value : a ≡ number 0 run * 10 ^ (y - x)
  pub digits : all_digits run ≡ true
  pub len : length run ≡ k + 1
  pub lead : 10 ^ k ≤ number 0 run

pub record At (a x y : ℕ) (run : List ℕ) : Type 0 where
  pub of : Run a x y run
  pub small : of.k < 34
  pub lowest : (x ≡ y) ⊎ ((c e : ℕ) → Stores a x c e → y ≤ e)
  pub full : (x ≡ y) ⊎ ((of.k ≡ 33) ⊎ (y ≡ low))

pub run_ge : {a x y : ℕ} {run : List ℕ} (h : Run a x y run) → 10 ^ h.k ≤ a
run_ge {a} {x} {y} {run} h =
    rw h.value (le_trans h.lead (le-mul_of_pos_right (number 0 run) (pow_pos (y - x))))

pub run_pos : {a x y : ℕ} {run : List ℕ} → Run a x y run → 1 ≤ a
run_pos h = le_trans (pow_pos h.k) (run_ge h)

-- a stored value that is written with more zeros than there is room for
too_big : (k j a c : ℕ) → 10 ^ k ≤ a → c ≡ a * 10 ^ j → 34 ≤ k + j → c < 10 ^ 34 → ⊥
too_big k j a c h e l s = omega (arith, pow-le l, pow-add 10 k j, mul-le-mul_right (10 ^ j) h)

-- what is stored at e, in terms of the run
stored-run : {a x y : ℕ} {run : List ℕ} → Run a x y run → (c e : ℕ) → y ≤ e → Stores a x c e → number 0 run ≡ c * 10 ^ (e - y)
stored-run {a} {x} {y} {run} h c e l st =
    let p = up_same a x c e (omega (arith, h.raised)) st.same in
    let q : e - x ≡ e - y + (y - x) = omega (arith, h.raised) in
    eq_of_mul-eq-mul_right (10 ^ (y - x)) (pow_pos (y - x)) (number 0 run) (c * 10 ^ (e - y))
    (sym h.value ∙ p ∙ rw (q, pow-add, mul_assoc))

-- ---- the last n bytes are cut

module _ (run : List ℕ) (n : ℕ) (l : n ≤ length run) where
  length-kept : length (kept n run) ≡ length run - n
  length-kept = simp length-take (omega arith)

  length-lost : length (lost n run) ≡ n
  length-lost = simp length-drop (omega arith)

  cut_number : all_zeros (lost n run) ≡ true → number 0 run ≡ number 0 (kept n run) * 10 ^ n
  cut_number z =
      ap (number 0) (sym (take-append-drop (length run - n) run))
      ∙ number_split (kept n run) (lost n run)
      ∙ rw (length-lost, zeros_number (lost n run) z, add-zero)

  cut_zeros : (c j : ℕ) → all_digits run ≡ true → number 0 run ≡ c * 10 ^ j → n ≤ j → all_zeros (lost n run) ≡ true
  cut_zeros c j d e m =
      multiple_zeros (kept n run) (lost n run) c j (digits_split (length run - n) run d).1
      (rw take-append-drop e) (rw length-lost m)

raise : {a x y : ℕ} {run : List ℕ} (n : ℕ) → Run a x y run → n ≤ length run → all_zeros (lost n run) ≡ true → (r : Run a x (y + n) (kept n run)) × (r.k + n ≡ length run - 1)
raise {a} {x} {y} {run} n h l z =
    let v = cut_number run n l z in
    let dg = (digits_split (length run - n) run h.digits).0 in
    let lk = length-kept run n l in
    let b : n ≤ h.k =
    ⊎_elim (λ p. p)
    (λ p.
    let e : length (kept n run) ≡ 0 = omega (arith, h.len) in
    let o : number 0 (kept n run) ≡ 0 = omega (arith, rw e at (number_lt (kept n run) dg)) in
    let t : number 0 run ≡ 0 = v ∙ rw (o, zero-mul) in
    absurd (omega (arith, h.lead, pow_pos h.k)))
    (le_or n h.k) in
    let q : y + n - x ≡ n + (y - x) = omega (arith, h.raised) in
    let g : h.k ≡ h.k - n + n = omega arith in (
      record {
        k = h.k - n;
        raised = omega (arith, h.raised);
        value = h.value ∙ rw (v, q, pow-add, mul_assoc);
        digits = dg;
        len = omega (arith, h.len);
        lead = le_of_mul-le-mul_right (rw (← pow-add 10 (h.k - n) n, ← g, ← v) h.lead) (pow_pos n);
      },
      omega (arith, h.len),
    )

-- a number of at most 34 digits
pub number_small : (s : List ℕ) → all_digits s ≡ true → length s ≤ 34 → number 0 s < 10 ^ 34
number_small s h l = lt_of_lt_of_le (number_lt s h) (pow-le l)

-- a value that is not zero and has c·10^e at no e is not storable
none : {a x : ℕ} → 1 ≤ a → ((c e : ℕ) → 1 ≤ c → Stores a x c e → ⊥) → Storable a x → ⊥
none p f s = ⊎_elim (λ z. omega arith) (λ w. f w.0 w.1 w.2 w.3) s

-- accepted at e
keep : (sign : Bool) (a x c e : ℕ) → 1 ≤ c → Stores a x c e → ((c' e' : ℕ) → Stores a x c' e' → distance x e ≤ distance x e') → Outcome sign a x (accepted (finite sign (e - low) c))
unfolding Outcome
keep sign a x c e p st near =
    let q : e - low + low ≡ e = omega (arith, st.above) in
    inl (inr (c, e, p, st), record { coefficient = c; field = e - low; is = refl; stores = rw q st; nearest = rw q near })

-- ---- steps 10 and 11

eleven : (text : List ℕ) (sign : Bool) (y : ℕ) (run : List ℕ) → all_digits run ≡ true → (step11 text sign y run).reading ≡ accepted (finite sign (y - low) (number 0 run))
unfolding step11
eleven text sign y run h = rw (no_point run h)

module _ (text : List ℕ) (sign : Bool) (a x y : ℕ) (run : List ℕ) (h : At a x y run) (l : low ≤ y) where
  within : y ≤ high → Outcome sign a x (step10 text sign y run).reading
  unfolding step10
  within u =
      rw (le-leb y high u, eleven text sign y run h.of.digits)
      (keep sign a x (number 0 run) y (le_trans (pow_pos h.of.k) h.of.lead)
      (record { small = number_small run h.of.digits (omega (arith, h.of.len, h.small)); above = l; below = u; same = same_up a x (number 0 run) y h.of.raised h.of.value })
      (λ c e st. ⊎_elim (λ z. omega arith) (λ f. omega (arith, h.of.raised, f c e st)) h.lowest))

  padded : high < y → x ≡ y → length run + (y - high) ≤ 34 → Outcome sign a x (step10 text sign y run).reading
  unfolding step10
  padded u z f =
      let d = y - high in
      let more = run ++ replicate d 48 in
      let dg : all_digits more ≡ true = digits_append run (replicate d 48) h.of.digits (digits_zeros d) in
      let i : y - x ≡ 0 = omega arith in
      let val : a ≡ number 0 run = h.of.value ∙ rw (i, pow-zero, mul-one) in
      let q : x - high ≡ y - high = omega arith in
      let v : number 0 more ≡ a * 10 ^ (x - high) = number_split run (replicate d 48) ∙ rw (length-replicate, zeros_number (replicate d 48) (zeros_zeros d), add-zero, q, val) in
      rw (lt-leb y high u, le-leb _ 34 f, eleven text sign high more dg)
      (keep sign a x (number 0 more) high (rw v (mul-le-mul (run_pos h.of) (pow_pos (x - high))))
      (record { small = number_small more dg (simp (length-append, length-replicate) f); above = omega (arith, range); below = omega arith; same = same_down a x (number 0 more) high (omega arith) v })
      (λ c e st. omega (arith, st.below)))

  over : high < y → 34 < length run + (y - high) → Outcome sign a x (step10 text sign y run).reading
  unfolding step10 Outcome
  over u f = rw (lt-leb y high u, lt-leb _ 34 f) (inr (
    none (run_pos h.of) (λ c e p st. ⊎_elim
        (λ z. too_big h.of.k (x - e) a c (run_ge h.of) (down_same a x c e (omega (arith, st.below)) st.same) (omega (arith, h.of.len, st.below)) st.small)
        (λ g. omega (arith, st.below, g c e st))
        h.lowest),
    inl refl,
  ))

  ten : Outcome sign a x (step10 text sign y run).reading
  ten =
      ⊎_elim within
      (λ u. ⊎_elim (λ f. padded u (⊎_elim (λ z. z) (λ w. ⊎_elim (λ k. absurd (omega (arith, h.of.len))) (λ k. absurd (omega (arith, range))) w) h.full) f) (over u) (le_or (length run + (y - high)) 34))
      (le_or y high)

-- ---- step 9

module _ (text : List ℕ) (sign : Bool) (a x y : ℕ) (run : List ℕ) (h : At a x y run) (l : y < low) where
  -- every place at which it could be stored is far above
  far : (c e : ℕ) → Stores a x c e → number 0 run ≡ c * 10 ^ (e - y)
  far c e st = stored-run h.of c e (omega (arith, st.above)) st

  cut : (t : Bool) (p : ℕ) → low - y ≤ length run → all_zeros (lost (low - y) run) ≡ t → Outcome sign a x (cond t (step10 text sign low (kept (low - y) run)) (refused_at inexact_rounding p)).reading
  unfolding Outcome
  cut true p f z =
      let r = raise (low - y) h.of f z in
      let q : y + (low - y) ≡ low = omega arith in
      let r' : Run a x low (kept (low - y) run) = subst (λ (n : ℕ). Run a x n (kept (low - y) run)) q r.0 in
      ten text sign a x low (kept (low - y) run)
      (record { of = r'; small = omega (arith, r.1, h.small, h.of.len); lowest = inr (λ c e st. st.above); full = inr (inr refl) })
      (omega arith)
  cut false p f z =
      inr (
        none (run_pos h.of) (λ c e q st.
            let b = cut_zeros run (low - y) f c (e - y) h.of.digits (far c e st) (omega (arith, st.above)) in
            absurd (true≢false (sym b ∙ z))),
        inr refl,
      )

  gone : length run < low - y → Outcome sign a x (refused overflow)
  unfolding Outcome
  gone f =
      inr (
        none (run_pos h.of) (λ c e p st.
            let n = number_lt run h.of.digits in
            let m = far c e st in
            let w : length run ≤ e - y = omega (arith, st.above) in
            omega (arith, pow-le w, mul-le-mul_right (10 ^ (e - y)) p, one-mul (10 ^ (e - y)))),
        inl refl,
      )

  nine_low : Outcome sign a x (step9 text sign y run).reading
  unfolding step9
  nine_low =
      rw (lt-leb low y l)
      (⊎_elim (λ f. rw (le-leb (low - y) (length run) f) (cut (all_zeros (lost (low - y) run)) _ f refl)) (λ f. rw (lt-leb (low - y) (length run) f) (gone f)) (le_or (low - y) (length run)))

nine : (text : List ℕ) (sign : Bool) (a x y : ℕ) (run : List ℕ) → At a x y run → Outcome sign a x (step9 text sign y run).reading
unfolding step9
nine text sign a x y run h =
    ⊎_elim (λ l. rw (le-leb low y l) (ten text sign a x y run h l)) (λ l. nine_low text sign a x y run h l) (le_or low y)

-- ---- step 8

module _ (text : List ℕ) (sign : Bool) (a x : ℕ) (run : List ℕ) (h : Run a x x run) (l : 34 < length run) where
  up : (c e : ℕ) → Stores a x c e → x + (length run - 34) ≤ e
  up c e st =
      ⊎_elim (λ p. p)
      (λ p. absurd (⊎_elim
      (λ q. too_big h.k (x - e) a c (run_ge h) (down_same a x c e q st.same) (omega (arith, h.len)) st.small)
      (λ q.
      let v = up_same a x c e (omega arith) st.same in
      let w : 34 + (e - x) ≤ h.k = omega (arith, h.len) in
      omega (arith, run_ge h, pow-le w, pow-add 10 34 (e - x), mul-lt-mul_of_pos_right st.small (pow_pos (e - x))))
      (le_or e x)))
      (le_or (x + (length run - 34)) e)

  same_length : length run - (length run - 34) ≡ 34
  same_length = omega arith

  long : (t : Bool) (p : ℕ) → all_zeros (drop 34 run) ≡ t → Outcome sign a x (cond t (step9 text sign (x + (length run - 34)) (take 34 run)) (refused_at inexact_rounding p)).reading
  unfolding Outcome
  long true p z =
      let r = raise (length run - 34) h (omega arith) (rw same_length z) in
      let r' : Run a x (x + (length run - 34)) (take 34 run) = subst (λ (n : ℕ). Run a x (x + (length run - 34)) (take n run)) same_length r.0 in
      nine text sign a x (x + (length run - 34)) (take 34 run)
      (record { of = r'; small = omega (arith, r.1); lowest = inr up; full = inr (inl (omega (arith, r.1))) })
  long false p z =
      inr (
        none (run_pos h) (λ c e q st.
            let u = up c e st in
            let b = cut_zeros run (length run - 34) (omega arith) c (e - x) h.digits (stored-run h c e (omega arith) st) (omega arith) in
            absurd (true≢false (sym (rw same_length at b) ∙ z))),
        inr refl,
      )

eight : (text : List ℕ) (sign : Bool) (a x : ℕ) (run : List ℕ) → Run a x x run → Outcome sign a x (step8 text sign x run).reading
unfolding step8
eight text sign a x run h =
    ⊎_elim
    (λ l. rw (le-leb _ 34 l) (nine text sign a x x run (record { of = h; small = omega (arith, h.len); lowest = inl refl; full = inl refl })))
    (λ l. rw (lt-leb _ 34 l) (long text sign a x run h l (all_zeros (drop 34 run)) _ refl))
    (le_or (length run) 34)

-- ---- step 7

nearest_of : (x e o : ℕ) → low ≤ o → o ≤ high → ((x ≤ low) × (e ≡ low)) ⊎ ((e ≡ x) ⊎ ((high ≤ x) × (e ≡ high))) → distance x e ≤ distance x o
nearest_of x e o p q w =
    ⊎_elim (λ u. omega (arith, u.0, u.1)) (λ v. ⊎_elim (λ u. omega arith) (λ u. omega (arith, u.0, u.1)) v) w

clamped : (x : ℕ) → ((x ≤ low) × (min (max x low) high ≡ low)) ⊎ ((min (max x low) high ≡ x) ⊎ ((high ≤ x) × (min (max x low) high ≡ high)))
clamped x =
    ⊎_elim (λ p. inl (p, omega (arith, range)))
    (λ p. ⊎_elim (λ q. inr (inl (omega (arith, range)))) (λ q. inr (inr (omega arith, omega (arith, range)))) (le_or x high))
    (le_or x low)

zero_kept : (sign : Bool) (x : ℕ) → Outcome sign 0 x (accepted (finite sign (min (max x low) high - low) 0))
unfolding Outcome
zero_kept sign x =
    let e = min (max x low) high in
    let q : e - low + low ≡ e = omega (arith, range) in
    inl (
      inl refl,
      record {
        coefficient = 0;
        field = e - low;
        is = refl;
        stores = rw q (record { small = omega arith; above = omega (arith, range); below = omega arith; same = zero-mul _ ∙ sym (zero-mul _) });
        nearest = rw q (λ c o st. nearest_of x e o st.above st.below (clamped x));
      },
    )

pub seven : (text : List ℕ) (sign : Bool) (x : ℕ) (run : List ℕ) → all_digits run ≡ true → Leading run → Outcome sign (number 0 run) x (step7 text sign x run).reading
unfolding step7
seven text sign x [] d l = unfold number in zero_kept sign x
seven text sign x (b ∷ s) d l =
    let p = byte_digit b (both (is_digit b) (all_digits s) (unfold all_digits in d)).0 in
    let q : 49 ≤ b = ⊎_elim (λ g. absurd (l (omega arith))) (λ g. g) (le_or b 48) in
    let i : x - x ≡ 0 = omega arith in
    eight text sign (number 0 (b ∷ s)) x (b ∷ s)
    (record { k = length s; raised = omega arith; value = sym (rw (i, pow-zero, mul-one)); digits = d; len = omega arith; lead = number_ge b s q })
