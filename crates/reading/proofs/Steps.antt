-- Steps 7 to 11 as the code takes them: by where x stands, and by what is cut from the run.
use mathlib.Core.Path.{◌≡◌, refl, sym, ◌∙◌}
use mathlib.Core.Logic.{⊎_elim}
use mathlib.Core.Bool.{Bool, true, cond, true≢false}
use mathlib.Core.List.{List, [], ◌∷◌, ◌++◌, append-nil}
use Prim.Native.Nat.{ℕ, suc, ◌+◌, ◌-◌, ◌*◌, ◌^◌, ◌≤◌, ◌<◌, min, max}
use native.Mathlib.Nat.{add-zero, sub-zero, lt_of_lt_of_le, mul-lt-mul_of_pos_right}
use native.Mathlib.Omega.{arith}
use lib.Pow.{pow-add}
use lib.Dec.{eqb}
use lib.ListN.{length, take, drop, replicate, length-replicate}
use lib.Seq.{take-length, drop-length}
use borrow.Author.Tests.{le-leb, lt-leb}
use Rattle.meaning.specs.Reading.{Located, refused_at, accepted_as, origin, low, high, number, all_digits, all_zeros, holds, strip_zeros, kept, lost, after_e, second_point, first_cut, step7, step8, step9, step10, step11}
use Rattle.meaning.specs.Decimal.Decimal.{finite}
use Rattle.meaning.specs.Refusals.Refusal.{invalid_coefficient, overflow, inexact_rounding}
use Rattle.meaning.proofs.Numbers.{le_or, no_point, digits_append, digits_zeros, zeros_zeros, zeros_number, number_split, strip_number, strip_digits, number_lt, pow_pos, pow-le, eq_or}
use Rattle.reading.proofs.Bytes.{holds_here, holds_later}
use Rattle.std.proofs.lemmas.Bool.{cases_Bool}

-- ---- the range of x

low_origin : low + 6176 ≡ origin
unfolding low origin
low_origin = refl

range : high ≡ low + 12287
unfolding low high
range = refl

-- the field of -f
pub field_of : (f : ℕ) → f ≤ 6176 → (low ≤ origin - f) × (origin - f ≤ high) × (6176 - f ≡ origin - f - low)
field_of f h = let e = low_origin in let r = range in (omega arith, omega arith, omega arith)

-- ---- step 11

holds-append : (b : ℕ) (s t : List ℕ) → holds b s ≡ true → holds b (s ++ t) ≡ true
holds-append b [] t e = unfold holds in absurd (true≢false (sym e))
holds-append b (x ∷ s) t e =
    ⊎_elim
    (λ q. holds_here b x (s ++ t) q)
    (λ q. holds_later b x (s ++ t) q ∙ holds-append b s t (sym (holds_later b x s q) ∙ e))
    (eq_or x b)

pub step11_point : (text : List ℕ) (g : Bool) (x : ℕ) (s t : List ℕ) → holds 46 s ≡ true → step11 text g x (s ++ t) ≡ refused_at invalid_coefficient (second_point text)
unfolding step11
step11_point text g x s t e = rw (holds-append 46 s t e)

pub step11_digits : (text : List ℕ) (g : Bool) (f a : ℕ) (s : List ℕ) → all_digits s ≡ true → step11 text g (low + f) (s ++ replicate a 48) ≡ accepted_as (finite g f (number 0 s * 10 ^ a))
unfolding step11
step11_digits text g f a s e =
    let n : number 0 (s ++ replicate a 48) ≡ number 0 s * 10 ^ a =
    number_split s (replicate a 48) ∙ rw (zeros_number (replicate a 48) (zeros_zeros a), length-replicate, add-zero) in
    let x : low + f - low ≡ f = omega arith in
    rw (no_point (s ++ replicate a 48) (digits_append s (replicate a 48) e (digits_zeros a)), n, x)

-- ---- where n stands against l and h

not_below : {n l : ℕ} → l ≤ n → min 35 (l - n) ≡ 0
not_below h = omega arith

not_above : {n h : ℕ} → n ≤ h → min 35 (n - h) ≡ 0
not_above k = omega arith

pub not_under : {n l : ℕ} → min 35 (l - n) ≡ 0 → l ≤ n
not_under h = omega arith

pub not_over : {n h : ℕ} → min 35 (n - h) ≡ 0 → n ≤ h
not_over k = omega arith

few_of : (d : ℕ) → min 35 d ≤ 34 → min 35 d ≡ d
few_of d h = omega arith

pub nearest_in : {n l h : ℕ} → l ≤ n → n ≤ h → min (max n l) h - l ≡ n - l
nearest_in p q = omega arith

nearest_high : {n l h : ℕ} → l ≤ h → h < n → min (max n l) h - l ≡ h - l
nearest_high p q = omega arith

nearest_low : {n l h : ℕ} → l ≤ h → n < l → min (max n l) h - l ≡ 0
nearest_low p q = omega arith

pub nearest_most : (n : ℕ) → min (max n low) high - low ≤ 12287
nearest_most n = omega (arith, range)

-- ---- steps 9 and 10, where x stands `below` under the range or `above` it, up to 35, and f is the field of the nearest in it

module _ (text : List ℕ) (g : Bool) (n : ℕ) (run : List ℕ) (few : length run ≤ 34) where
  pub step9-below : length run < min 35 (low - n) → step9 text g n run ≡ refused_at overflow (after_e text)
  unfolding step9
  step9-below h = rw (lt-leb low n (omega arith), lt-leb (low - n) (length run) (omega arith))

  pub step9-above : 34 < length run + min 35 (n - high) → step9 text g n run ≡ refused_at overflow (after_e text)
  unfolding step9 step10
  step9-above h =
      let r = range in
      rw (le-leb low n (omega arith), lt-leb n high (omega arith), lt-leb (length run + (n - high)) 34 (omega arith))

  -- what is cut, and what is kept and padded
  abbrev left : ℕ → ℕ → ℕ → Located
  left b a f = cond (all_zeros (lost b run)) (step11 text g (low + f) (kept b run ++ replicate a 48)) (refused_at inexact_rounding (first_cut (length run - b) text))

  nothing-lost : (a f : ℕ) → left 0 a f ≡ step11 text g (low + f) (run ++ replicate a 48)
  unfolding all_zeros
  nothing-lost a f = rw (sub-zero, drop-length, take-length)

  within : low ≤ n → n ≤ high → step9 text g n run ≡ left 0 0 (n - low)
  unfolding step9 step10
  within h k =
      let e : low + (n - low) ≡ n = omega arith in
      rw (le-leb low n h, le-leb n high k) (sym (nothing-lost 0 (n - low) ∙ rw (e, append-nil)))

  over : high < n → length run + (n - high) ≤ 34 → step9 text g n run ≡ left 0 (n - high) (high - low)
  unfolding step9 step10
  over h k =
      let r = range in
      let e : low + (high - low) ≡ high = omega arith in
      rw (le-leb low n (omega arith), lt-leb n high h, le-leb (length run + (n - high)) 34 k)
      (sym (nothing-lost (n - high) (high - low) ∙ rw e))

  under : n < low → low - n ≤ length run → step9 text g n run ≡ left (low - n) 0 0
  unfolding step9 step10
  under h k =
      let r = range in
      rw (lt-leb low n h, le-leb (low - n) (length run) k, le-leb low high (omega arith), append-nil, add-zero)

  module _ (b a f : ℕ) (eb : b ≡ min 35 (low - n)) (ea : a ≡ min 35 (n - high)) (ef : f ≡ min (max n low) high - low) (hb : b ≤ length run) (ha : length run + a ≤ 34) where
    pub step9-left : step9 text g n run ≡ left b a f
    step9-left =
        ⊎_elim
        (λ h.
        ⊎_elim
        (λ k. rw (eb ∙ not_below h, ea ∙ not_above k, ef ∙ nearest_in h k) (within h k))
        (λ k.
        let q = ea ∙ few_of (n - high) (rw ea at few-above) in
        rw (eb ∙ not_below h, q, ef ∙ nearest_high low-high k) (over k (rw q at ha)))
        (le_or n high))
        (λ h.
        let q = eb ∙ few_of (low - n) (rw eb at few-below) in
        rw (q, ea ∙ not_above (below-high h), ef ∙ nearest_low low-high h) (under h (rw q at hb)))
        (le_or low n)
      where
        few-above : a ≤ 34
        few-above = omega arith

        few-below : b ≤ 34
        few-below = omega arith

        low-high : low ≤ high
        low-high = omega (arith, range)

        below-high : n < low → n ≤ high
        below-high h = omega (arith, range)

-- ---- step 8

pub step8-left : (text : List ℕ) (g : Bool) (n c k : ℕ) (run : List ℕ) → c ≡ length run → k ≡ min c 34 → step8 text g n run ≡ cond (all_zeros (drop k run)) (step9 text g (n + (c - k)) (take k run)) (refused_at inexact_rounding (first_cut k text))
unfolding step8 all_zeros
step8-left text g n c k run ec ek =
    ⊎_elim
    (λ h.
    let e : k ≡ length run = omega arith in
    let z : c - k ≡ 0 = omega arith in
    rw (le-leb (length run) 34 h, z, e, drop-length, take-length, add-zero))
    (λ h.
    let e : k ≡ 34 = omega arith in
    rw (lt-leb (length run) 34 h, e, ec))
    (le_or (length run) 34)

-- ---- nothing to cut or pad

strip_length : (s : List ℕ) → length (strip_zeros s) ≤ length s
unfolding strip_zeros
strip_length [] = omega arith
strip_length (x ∷ s) =
    ⊎_elim (λ q. rw q (omega (arith, strip_length s))) (λ q. rw q (omega arith)) (cases_Bool (eqb x 48))

module _ (text : List ℕ) (g : Bool) (n : ℕ) (h : low ≤ n) (k : n ≤ high) where
  as_it_is : (run : List ℕ) → all_digits run ≡ true → length run ≤ 34 → step7 text g n run ≡ accepted_as (finite g (n - low) (number 0 run))
  unfolding step7 step8 step9 step10 step11 number
  as_it_is [] d l = let e : min (max n low) high ≡ n = omega arith in rw e
  as_it_is (b ∷ s) d l = rw (le-leb (suc (length s)) 34 l, le-leb low n h, le-leb n high k, no_point (b ∷ s) d)

  pub steps_short : (run : List ℕ) → all_digits run ≡ true → length run ≤ 34 → step7 text g n (strip_zeros run) ≡ accepted_as (finite g (n - low) (number 0 run))
  steps_short run d l =
      as_it_is (strip_zeros run) (strip_digits run d) (omega (arith, strip_length run)) ∙ rw strip_number

-- ---- sizes

pub number_most : (run : List ℕ) → all_digits run ≡ true → length run ≤ 34 → number 0 run < 10 ^ 34
number_most run d l = lt_of_lt_of_le (number_lt run d) (pow-le {j = 34} l)

pub padded_lt : (v k a : ℕ) → v < 10 ^ k → k + a ≤ 34 → v * 10 ^ a < 10 ^ 34
padded_lt v k a h l =
    lt_of_lt_of_le (rw (← pow-add 10 k a) at (mul-lt-mul_of_pos_right h (pow_pos a))) (pow-le {j = 34} l)
