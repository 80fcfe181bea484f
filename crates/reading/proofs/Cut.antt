-- Steps 7 to 9 in place: what is cut from the run and what is kept of it are runs themselves.
use mathlib.Core.Path.{◌≡◌, refl, sym, ap, ◌∙◌}
use mathlib.Core.Bool.{Bool, true, cond}
use mathlib.Core.List.{List, [], ◌∷◌, ◌++◌}
use Prim.Native.Nat.{ℕ, ◌+◌, ◌-◌, ◌*◌, ◌≤◌, ◌<◌, min, max}
use native.Mathlib.Omega.{arith}
use lib.ListN.{length, take, replicate}
use lib.Seq.{length-take-le}
use Rattle.meaning.specs.Reading.{refused_at, accepted_as, low, high, all_zeros, kept, lost, after_e, first_cut, step7, step8, step9, step11}
use Rattle.meaning.specs.Decimal.Decimal.{finite}
use Rattle.meaning.specs.Refusals.Refusal.{overflow, inexact_rounding}
use Rattle.meaning.proofs.Numbers.{Leading}
use Rattle.limbs.specs.declared.wide.Stand.{Stand}
use Rattle.limbs.specs.Wide.{stand_at}
use Rattle.reading.specs.Run.{run, counted, Offset, Leads}
use Rattle.reading.proofs.Walk.{length_run, run_parts, run_within, run_first, run_rest}
use Rattle.reading.proofs.Leading.{leads_take, leads_front}
use Rattle.reading.proofs.Steps.{step9-below, step9-above, step9-left, step8-left, nearest_most, nearest_in, not_under, not_over}

-- ---- where x stands

module _ (n : ℕ) (q : Stand) (e : q ≡ stand_at n) where
  below_is : q.below ≡ min 35 (low - n)
  unfolding stand_at
  below_is = ap (λ (x : Stand). x.below) e

  above_is : q.above ≡ min 35 (n - high)
  unfolding stand_at
  above_is = ap (λ (x : Stand). x.above) e

  field_is : q.field ≡ min (max n low) high - low
  unfolding stand_at
  field_is = ap (λ (x : Stand). x.field) e

  pub field_most : q.field ≤ 12287
  field_most = rw field_is (nearest_most n)

  pub stands_in : q.below ≡ 0 → q.above ≡ 0 → (low ≤ n) × (n ≤ high) × (q.field ≡ n - low)
  stands_in b a =
      let l = not_under (sym below_is ∙ b) in
      let h = not_over (sym above_is ∙ a) in (l, h, field_is ∙ nearest_in l h)

-- ---- sizes

min_most : (a b k : ℕ) → k ≡ min a b → k ≤ a
min_most a b k e = omega arith

pub counted_most : (p i t : ℕ) → counted p i t ≤ t - i
counted_most p i t = omega arith

-- what is counted up to t stands before it
pub sum_fits : {i c k t l b : ℕ} → k ≤ t - i → c ≡ k → i ≤ t → t ≤ l → l * 1 < b → i + c < b
sum_fits h e p q r = omega arith

pub run_short : (p i t : ℕ) (s : List ℕ) → i ≤ t → t ≤ length s → length (run p i t s) ≤ t - i
run_short p i t s h l = rw (length_run p i t s h l) (counted_most p i t)

-- ---- step 9 in place, of the first `count` bytes of the run

module _ (p i t : ℕ) (s : List ℕ) (h : i ≤ t) (l : t ≤ length s) (count : ℕ) (m : count ≤ length (run p i t s)) where
  cut_length : length (take count (run p i t s)) ≡ count
  cut_length = length-take-le count (run p i t s) m

  module _ (end b cut : ℕ) (oe : Offset p i count end) (oc : Offset p i (count - b) cut) where
    pub end-within : end ≤ t
    end-within = run_within p i count end t s oe h l m

    end-run : take count (run p i t s) ≡ run p i end s
    end-run = run_first p i count end t s oe h l m

    end-length : length (run p i end s) ≡ count
    end-length = ap length (sym end-run) ∙ cut_length

    inside : count - b ≤ length (run p i end s)
    inside = omega (arith, end-length)

    end-text : end ≤ length s
    end-text = omega (arith, end-within)

    pub cut-within : cut ≤ end
    cut-within = run_within p i (count - b) cut end s oc oe.after end-text inside

    kept_run : kept b (run p i end s) ≡ run p i cut s
    kept_run = rw end-length (run_first p i (count - b) cut end s oc oe.after end-text inside)

    lost-run : lost b (run p i end s) ≡ run p cut end s
    lost-run = rw end-length (run_rest p i (count - b) cut end s oc oe.after end-text inside)

    kept-length : length (run p i cut s) ≡ count - b
    kept-length = length_run p i cut s oc.after (omega (arith, cut-within, end-text)) ∙ oc.count

    -- what is kept begins as the run does, where zeros are cut
    pub kept-leads : Leads (take count (run p i t s)) count → all_zeros (run p cut end s) ≡ true → Leads (run p i cut s) (count - b)
    kept-leads f z =
        leads_front (run p i cut s) (run p cut end s) count (count - b)
        (rw (end-run, run_parts p i cut end s oc.after cut-within end-text) at f)
        z kept-length

    -- steps 9 and 10, where x stands as q says
    module _ (text : List ℕ) (g : Bool) (n : ℕ) (q : Stand) (e : q ≡ stand_at n) (few : count ≤ 34) (eb : b ≡ q.below) (hb : b ≤ count) (ha : count + q.above ≤ 34) where
      pub placed-left : step9 text g n (take count (run p i t s)) ≡ cond (all_zeros (run p cut end s)) (step11 text g (low + q.field) (run p i cut s ++ replicate q.above 48)) (refused_at inexact_rounding (first_cut (count - b) text))
      placed-left =
          rw (end-run, ← kept_run, ← lost-run, ← end-length)
          (step9-left text g n (run p i end s) (rw end-length few) b q.above q.field (eb ∙ below_is n q e) (above_is n q e) (field_is n q e) (rw end-length hb) (rw end-length ha))

  -- x stands too far from the range for the run
  module _ (text : List ℕ) (g : Bool) (n : ℕ) (q : Stand) (e : q ≡ stand_at n) (few : count ≤ 34) where
    pub placed_below : count < q.below → step9 text g n (take count (run p i t s)) ≡ refused_at overflow (after_e text)
    placed_below k =
        step9-below text g n (take count (run p i t s)) (rw cut_length few) (rw (cut_length, ← below_is n q e) k)

    pub placed-above : 34 < count + q.above → step9 text g n (take count (run p i t s)) ≡ refused_at overflow (after_e text)
    placed-above k =
        step9-above text g n (take count (run p i t s)) (rw cut_length few) (rw (cut_length, ← above_is n q e) k)

-- ---- step 7: nothing is left of the run, or something

module _ (text : List ℕ) (g : Bool) (n : ℕ) where
  pub step7_none : (run : List ℕ) (q : Stand) → length run ≡ 0 → q ≡ stand_at n → step7 text g n run ≡ accepted_as (finite g q.field 0)
  unfolding step7
  step7_none [] q l e = rw (field_is n q e)
  step7_none (b ∷ s) q l e = absurd (omega arith)

  pub step7_some : (run : List ℕ) → (length run ≡ 0 → ⊥) → step7 text g n run ≡ step8 text g n run
  unfolding step7
  step7_some [] l = absurd (l refl)
  step7_some (b ∷ s) l = refl

-- ---- step 8 in place

module _ (p i t : ℕ) (s : List ℕ) (h : i ≤ t) (l : t ≤ length s) (count keep end : ℕ) (ec : count ≡ counted p i t) (ek : keep ≡ min count 34) (o : Offset p i keep end) where
  all : count ≡ length (run p i t s)
  all = ec ∙ sym (length_run p i t s h l)

  keep_most : keep ≤ length (run p i t s)
  keep_most = rw (← all) (min_most count 34 keep ek)

  -- a run that begins with no zero
  pub keep_leads : Leading (run p i t s) → (count ≡ 0 → ⊥) → Leads (take keep (run p i t s)) keep
  keep_leads f z = leads_take (run p i t s) keep f (omega arith) keep_most

  pub keep_within : end ≤ t
  keep_within = run_within p i keep end t s o h l keep_most

  pub rounded_left : (text : List ℕ) (g : Bool) (n : ℕ) → step8 text g n (run p i t s) ≡ cond (all_zeros (run p end t s)) (step9 text g (n + (count - keep)) (take keep (run p i t s))) (refused_at inexact_rounding (first_cut keep text))
  rounded_left text g n =
      step8-left text g n count keep (run p i t s) all ek
      ∙ ap (λ (r : List ℕ). cond (all_zeros r) (step9 text g (n + (count - keep)) (take keep (run p i t s))) (refused_at inexact_rounding (first_cut keep text))) (run_rest p i keep end t s o h l keep_most)
