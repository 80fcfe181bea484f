use mathlib.Core.Path.{◌≡◌, refl, ◌∙◌}
use mathlib.Core.Bool.{true}
use Prim.Native.Nat.{ℕ, ◌+◌, ◌*◌, ◌^◌, ◌≤◌, ◌<◌}
use native.Mathlib.Omega.{arith}
use borrow.Author.Tests.{lt-ltb}
use Rattle.meaning.specs.Reading.{all_digits, number}
use Rattle.meaning.proofs.Numbers.{number_lt}
use Rattle.reading.specs.declared.scan.Scan.{Scan}
use Rattle.reading.specs.Run.{run_of, Walked, Leads}
use Rattle.reading.proofs.Giving.{gives_refused, gives_finite}
use Rattle.reading.proofs.Leading.{padded_counts}
use Rattle.reading.proofs.Points.{walked_digits}
use Rattle.reading.proofs.Steps.{step11_point, step11_digits, padded_lt}
use Rattle.reading.proofs.round.kept.Goals as goal

pub returns-then-second-to : goal.returns-then-second-to
returns-then-second-to c =
    let w = c.requires.walkable in
    let o = c.requires.ordered in
    rw (step11_point _ _ _ _ _ (w.walked.second c.args.to o.0 o.1 ∙ lt-ltb _ _ c.if-second-to.true), w.placed.second (omega (arith, o.1, c.if-second-to.true)))
    (gives_refused c.at.ensures.refusal c.at.ensures.place)

-- the bytes up to `to` are digits, and with `pad` zeros behind them they make a number of the format
module _ (d : Scan) (first to digits pad : ℕ) (w : Walked d.text.now first d.stop d.found) (h : first ≤ to) (k : to ≤ d.stop) (s : to ≤ d.found.second) (l : Leads (run_of d first to) digits) (p : digits + pad ≤ 34) where
  all : all_digits (run_of d first to) ≡ true
  all = walked_digits d.text.now first to d.stop d.found w h k s

  bound : number 0 (run_of d first to) * 10 ^ pad < 10 ^ 34
  bound = padded_lt _ _ _ (number_lt _ all) (rw (← l.count) at p)

pub number-c-requires-clause-within : goal.number-c-requires-clause-within
number-c-requires-clause-within c =
    let o = c.requires.ordered in (o.0, omega (arith, o.1, c.requires.walkable.walked.within))

pub number-c-requires-clause-digits : goal.number-c-requires-clause-digits
number-c-requires-clause-digits c =
    let q = c.requires in
    all c.args.scan.now _ _ _ _ q.walkable.walked q.ordered.0 q.ordered.1 c.if-second-to.false q.leads q.few

pub number-c-requires-clause-few : goal.number-c-requires-clause-few
number-c-requires-clause-few c = omega (arith, c.requires.leads.count, c.requires.few)

pub padded-requires : goal.padded-requires
padded-requires c =
    let q = c.requires in
    (omega (arith, q.few), rw c.number-c.ensures (bound c.args.scan.now _ _ _ _ q.walkable.walked q.ordered.0 q.ordered.1 c.if-second-to.false q.leads q.few))

pub finite-requires-clause-coefficient : goal.finite-requires-clause-coefficient
finite-requires-clause-coefficient c =
    let q = c.requires in
    rw (c.padded.ensures, c.number-c.ensures) (bound c.args.scan.now _ _ _ _ q.walkable.walked q.ordered.0 q.ordered.1 c.if-second-to.false q.leads q.few)

pub finite-requires-clause-digits : goal.finite-requires-clause-digits
finite-requires-clause-digits c =
    let q = c.requires in
    rw (c.padded.ensures, c.number-c.ensures)
    (padded_counts _ c.args.digits c.args.p.above q.leads (all c.args.scan.now _ _ _ _ q.walkable.walked q.ordered.0 q.ordered.1 c.if-second-to.false q.leads q.few))

pub returns : goal.returns
returns c =
    let d = c.args.scan.now in
    let q = c.requires in
    rw (step11_digits d.text.now d.negative c.args.p.field c.args.p.above _ (all d _ _ _ _ q.walkable.walked q.ordered.0 q.ordered.1 c.if-second-to.false q.leads q.few))
    (gives_finite c.finite.ensures refl (c.padded.ensures ∙ rw c.number-c.ensures))
