use mathlib.Core.Path.{sym, ◌∙◌}
use Prim.Native.Nat.{◌+◌}
use native.Mathlib.Omega.{arith}
use Rattle.reading.proofs.Bytes.{neither}
use Rattle.reading.proofs.Pass.{passing_none, passing_digit, passing_point, scanned_long}
use Rattle.reading.proofs.Rows.{passing_on}
use Rattle.reading.proofs.scan.scan_long.Goals as goal

pub loop-at-init : goal.loop-at-init
loop-at-init c =
    let p = passing_none c.args.text.now c.args.start (omega arith) in
    let r = c.past_eights-at.ensures in passing_on _ _ _ _ r.1 _ r.0 r.2 (rw c.none-found.ensures p)

pub loop-at-preserved-then-is_ascii_digit : goal.loop-at-preserved-then-is_ascii_digit
loop-at-preserved-then-is_ascii_digit c =
    let d = sym c.is_ascii_digit.ensures.value ∙ c.if-is_ascii_digit.true in
    passing_digit _ _ _ _ c.loop-at.invariant c.loop-at-test.true _ d

pub loop-at-preserved : goal.loop-at-preserved
loop-at-preserved c =
    let p = passing_point _ _ _ _ c.loop-at.invariant c.loop-at-test.true c.if-b-eq46.true in
    let r = c.past_eights-at-then-b-eq46.ensures in
    passing_on _ _ _ _ r.1 (c.loop-at.at + 1) r.0 r.2 (rw c.with_point-found.ensures p)

pub returns-else-b-eq46 : goal.returns-else-b-eq46
returns-else-b-eq46 c =
    let d = sym c.is_ascii_digit.ensures.value ∙ c.if-is_ascii_digit.false in
    scanned_long _ _ _ _ c.loop-at.invariant (λ _. neither _ d c.if-b-eq46.false) c.requires

pub returns : goal.returns
returns c =
    let t = c.loop-at-test.false in scanned_long _ _ _ _ c.loop-at.invariant (λ h. absurd (omega arith)) c.requires
