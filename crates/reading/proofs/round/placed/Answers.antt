use mathlib.Core.Path.{◌≡◌, refl, ◌∙◌}
use mathlib.Core.Bool.{cond}
use mathlib.Core.List.{◌++◌}
use Prim.Native.Nat.{ℕ, ◌+◌, ◌-◌, ◌^◌, ◌≤◌, ◌<◌}
use native.Mathlib.Omega.{arith}
use lib.ListN.{length, take, replicate}
use Rattle.meaning.specs.Reading.{refused_at, low, all_zeros, first_cut, step9, step11}
use Rattle.meaning.specs.Refusals.Refusal.{inexact_rounding}
use Rattle.limbs.specs.declared.wide.Stand.{Stand}
use Rattle.limbs.specs.Wide.{stand_at}
use Rattle.reading.specs.declared.scan.Scan.{Scan}
use Rattle.reading.specs.Run.{run_of, Offset, Leads}
use Rattle.reading.specs.Parted.{Walkable}
use Rattle.reading.proofs.Giving.{gives_refused}
use Rattle.reading.proofs.Leading.{leads_most}
use Rattle.reading.proofs.Walk.{zeros_not, zeros_only}
use Rattle.reading.proofs.Cut.{run_short, cut-within, end-within, kept-leads, placed_below, placed-above, placed-left, field_most}
use Rattle.reading.proofs.round.placed.Goals as goal

-- the first `count` bytes of the run
module _ (d : Scan) (first count : ℕ) (w : Walkable d first) (l : Leads (take count (run_of d first d.stop)) count) where
  most : count ≤ length (run_of d first d.stop)
  most = leads_most _ _ l

  room : first + count < 2 ^ 63
  room =
      let r = run_short d.found.point first d.stop d.text.now w.walked.ordered w.walked.within in
      omega (arith, d.small, most, w.walked.ordered, w.walked.within, r)

  -- are cut in two
  module _ (b end cut : ℕ) (oe : Offset d.found.point first count end) (oc : Offset d.found.point first (count - b) cut) where
    inside : cut ≤ end
    inside = cut-within _ _ _ _ w.walked.ordered w.walked.within _ most _ _ _ oe oc

    outside : end ≤ d.stop
    outside = end-within _ _ _ _ w.walked.ordered w.walked.within _ most _ _ _ oe oc

    left : (n : ℕ) (p : Stand) → p ≡ stand_at n → count ≤ 34 → b ≡ p.below → b ≤ count → count + p.above ≤ 34 → step9 d.text.now d.negative n (take count (run_of d first d.stop)) ≡ cond (all_zeros (run_of d cut end)) (step11 d.text.now d.negative (low + p.field) (run_of d first cut ++ replicate p.above 48)) (refused_at inexact_rounding (first_cut (count - b) d.text.now))
    left n p e few eb hb ha =
        placed-left _ _ _ _ w.walked.ordered w.walked.within _ most _ _ _ oe oc d.text.now d.negative n p e few eb hb ha

pub returns-then-count-below : goal.returns-then-count-below
returns-then-count-below c = λ n k.
    let d = c.args.scan.now in
    let q = c.requires in
    let w = q.walkable.walked in
    rw (placed_below _ _ _ _ w.ordered w.within _ (most _ _ _ q.walkable q.leads) d.text.now d.negative n _ (c.place-p.ensures n k) q.few c.if-count-below.true, q.walkable.placed.letter)
    (gives_refused c.at.ensures.refusal (c.at.ensures.place ∙ c.after_e.ensures))

pub returns-then-count-above-gt34 : goal.returns-then-count-above-gt34
returns-then-count-above-gt34 c = λ n k.
    let d = c.args.scan.now in
    let q = c.requires in
    let w = q.walkable.walked in
    let at = c.at-then-count-above-gt34.ensures in
    rw (placed-above _ _ _ _ w.ordered w.within _ (most _ _ _ q.walkable q.leads) d.text.now d.negative n _ (c.place-p.ensures n k) q.few c.if-count-above-gt34.true, q.walkable.placed.letter)
    (gives_refused at.refusal (at.place ∙ c.after_e-then-count-above-gt34.ensures))

pub after-cut-requires : goal.after-cut-requires
after-cut-requires c = omega (arith, room _ _ _ c.requires.walkable c.requires.leads)

pub after-end-requires : goal.after-end-requires
after-end-requires c = room _ _ _ c.requires.walkable c.requires.leads

pub first_other-other-requires : goal.first_other-other-requires
first_other-other-requires c =
    let q = c.requires in
    let o = outside _ _ _ q.walkable q.leads _ _ _ c.after-end.ensures c.after-cut.ensures in
    (inside _ _ _ q.walkable q.leads _ _ _ c.after-end.ensures c.after-cut.ensures, omega (arith, o, q.walkable.walked.within))

pub returns-then-other-end : goal.returns-then-other-end
returns-then-other-end c = λ n k.
    let q = c.requires in
    let o = outside _ _ _ q.walkable q.leads _ _ _ c.after-end.ensures c.after-cut.ensures in
    let l = left _ _ _ q.walkable q.leads _ _ _ c.after-end.ensures c.after-cut.ensures n _ (c.place-p.ensures n k) q.few refl c.if-count-below.false c.if-count-above-gt34.false in
    let z = c.first_other-other.ensures in
    let t = c.if-other-end.true in
    let at = c.at-then-other-end.ensures in
    rw (l, zeros_not _ _ _ _ _ z t, q.walkable.placed.cut _ _ _ _ c.after-cut.ensures o z t) (gives_refused at.refusal at.place)

pub kept-requires-clause-ordered : goal.kept-requires-clause-ordered
kept-requires-clause-ordered c =
    let q = c.requires in
    let i = inside _ _ _ q.walkable q.leads _ _ _ c.after-end.ensures c.after-cut.ensures in
    let o = outside _ _ _ q.walkable q.leads _ _ _ c.after-end.ensures c.after-cut.ensures in
    (c.after-cut.ensures.after, omega (arith, i, o))

pub kept-requires-clause-leads : goal.kept-requires-clause-leads
kept-requires-clause-leads c =
    let q = c.requires in
    let w = q.walkable.walked in
    let z = zeros_only _ _ _ _ _ c.first_other-other.ensures c.if-other-end.false in
    kept-leads _ _ _ _ w.ordered w.within _ (most _ _ _ q.walkable q.leads) _ _ _ c.after-end.ensures c.after-cut.ensures q.leads z

pub kept-requires-clause-field : goal.kept-requires-clause-field
kept-requires-clause-field c =
    let n = c.requires.stands.0 in field_most n _ (c.place-p.ensures n c.requires.stands.1)

pub returns : goal.returns
returns c = λ n k.
    let q = c.requires in
    let l = left _ _ _ q.walkable q.leads _ _ _ c.after-end.ensures c.after-cut.ensures n _ (c.place-p.ensures n k) q.few refl c.if-count-below.false c.if-count-above-gt34.false in
    rw (l, zeros_only _ _ _ _ _ c.first_other-other.ensures c.if-other-end.false) c.kept.ensures
