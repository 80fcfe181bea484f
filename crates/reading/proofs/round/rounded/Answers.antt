use mathlib.Core.Path.{◌≡◌, refl, sym, ap, subst, ◌∙◌}
use mathlib.Core.Bool.{cond}
use Prim.Native.Nat.{ℕ, ◌+◌, ◌-◌, ◌*◌, ◌^◌, ◌≤◌, ◌<◌, min}
use native.Mathlib.Omega.{arith}
use lib.ListN.{length, take}
use Rattle.meaning.specs.Reading.{refused_at, all_zeros, first_cut, step7, step9}
use Rattle.meaning.specs.Refusals.Refusal.{inexact_rounding}
use Rattle.meaning.proofs.Numbers.{Leading, strip_leading}
use Rattle.limbs.proofs.Shifts.{stands_raised}
use Rattle.reading.specs.declared.scan.Scan.{Scan}
use Rattle.reading.specs.Run.{run_of, whole_run, from_step7, counted, Offset, ZerosTo}
use Rattle.reading.proofs.Giving.{gives_refused, gives_finite}
use Rattle.reading.proofs.Walk.{length_run, zeros_not, zeros_only}
use Rattle.reading.proofs.Points.{stop_low, stop_within, walked, walked_from}
use Rattle.reading.proofs.Where.{placed}
use Rattle.reading.proofs.Cut.{counted_most, sum_fits, keep_within, keep_leads, step7_none, step7_some, rounded_left, field_most}
use Rattle.reading.proofs.round.rounded.Goals as goal

within : (d : Scan) → d.stop ≤ length d.text.now
within d = stop_within _ _ _ _ d.scanned d.within

-- the run after its zeros, of `count` bytes
module _ (d : Scan) (first count : ℕ) (z : ZerosTo d.found.point d.start d.stop d.text.now first) (e : count ≡ counted d.found.point first d.stop) where
  all : length (run_of d first d.stop) ≡ count
  all = length_run _ _ _ _ z.within (within d) ∙ sym e

  room : first + count < 2 ^ 63
  room =
      let small : length d.text.now * 1 < 2 ^ 63 = omega (arith, d.small) in
      sum_fits (counted_most d.found.point _ _) e z.within (within d) small

  -- of which `keep` are kept
  module _ (keep end : ℕ) (k : keep ≡ min count 34) (o : Offset d.found.point first keep end) where
    inside : end ≤ d.stop
    inside = keep_within _ _ _ d.text.now z.within (within d) _ _ _ e k o

    left : (count ≡ 0 → ⊥) → (n : ℕ) → from_step7 d n ≡ cond (all_zeros (run_of d end d.stop)) (step9 d.text.now d.negative (n + (count - keep)) (take keep (run_of d first d.stop))) (refused_at inexact_rounding (first_cut keep d.text.now))
    left some n =
        ap (step7 d.text.now d.negative n) z.strip
        ∙ step7_some _ _ n _ (λ x. some (sym all ∙ x))
        ∙ rounded_left _ _ _ d.text.now z.within (within d) _ _ _ e k o d.text.now d.negative n

pub first_other-first-requires : goal.first_other-first-requires
first_other-first-requires c = let d = c.args.scan.now in (stop_low _ _ _ _ d.scanned d.within, within d)

pub finite-requires-clause-field : goal.finite-requires-clause-field
finite-requires-clause-field c =
    let n = c.requires.stands.0 in
    field_most n _ (c.place-p.ensures n (stands_raised n c.args.x c.requires.stands.1))

pub returns-then-count-eq0 : goal.returns-then-count-eq0
returns-then-count-eq0 c = λ n k.
    let d = c.args.scan.now in
    let z = c.first_other-first.ensures in
    let q = c.place-p.ensures n (stands_raised n c.args.x k) in
    rw (z.strip, step7_none _ d.negative n _ _ (all d _ _ z c.count-count.ensures ∙ c.if-count-eq0.true) q) (gives_finite c.finite.ensures refl refl)

pub after-end-requires : goal.after-end-requires
after-end-requires c =
    omega (arith, room c.args.scan.now _ _ c.first_other-first.ensures c.count-count.ensures, c.min-keep.ensures)

pub first_other-other-requires : goal.first_other-other-requires
first_other-other-requires c =
    let d = c.args.scan.now in
    (inside d _ _ c.first_other-first.ensures c.count-count.ensures _ _ c.min-keep.ensures c.after-end.ensures, within d)

pub returns-then-other-stop : goal.returns-then-other-stop
returns-then-other-stop c = λ n k.
    let d = c.args.scan.now in
    let z = c.first_other-first.ensures in
    let l = left d _ _ z c.count-count.ensures _ _ c.min-keep.ensures c.after-end.ensures c.if-count-eq0.false n in
    let y = c.first_other-other.ensures in
    let t = c.if-other-stop.true in
    rw (l, zeros_not _ _ _ _ _ y t, (placed _ _ _ _ d.scanned d.within c.requires.parted _ z).cut _ _ _ _ c.after-end.ensures (omega arith) y t)
    (gives_refused c.at.ensures.refusal c.at.ensures.place)

pub raised-requires : goal.raised-requires
raised-requires c =
    omega (arith, room c.args.scan.now _ _ c.first_other-first.ensures c.count-count.ensures)

pub placed-requires-clause-walkable : goal.placed-requires-clause-walkable
placed-requires-clause-walkable c =
    let d = c.args.scan.now in
    let z = c.first_other-first.ensures in
    record {
      walked = walked_from _ _ _ _ (walked _ _ _ _ d.scanned d.within) _ z;
      placed = placed _ _ _ _ d.scanned d.within c.requires.parted _ z;
    }

pub placed-requires-clause-leads : goal.placed-requires-clause-leads
placed-requires-clause-leads c =
    let d = c.args.scan.now in
    let z = c.first_other-first.ensures in
    let l = subst Leading z.strip (strip_leading (whole_run d)) in
    keep_leads _ _ _ d.text.now z.within (within d) _ _ _ c.count-count.ensures c.min-keep.ensures c.after-end.ensures l c.if-count-eq0.false

pub returns : goal.returns
returns c = λ n k.
    let d = c.args.scan.now in
    let l = left d _ _ c.first_other-first.ensures c.count-count.ensures _ _ c.min-keep.ensures c.after-end.ensures c.if-count-eq0.false n in
    rw (l, zeros_only _ _ _ _ _ c.first_other-other.ensures c.if-other-stop.false)
    (c.placed.ensures _ (c.raised.ensures n k))
