use mathlib.Core.Path.{◌≡◌, sym, ◌∙◌}
use lib.ListN.{length}
use native.Mathlib.Omega.{arith}
use native.Mathlib.Nat.{lt_of_lt_of_le}
use Rattle.meaning.proofs.Numbers.{pow-le}
use Rattle.reading.proofs.Bytes.{neither}
use Rattle.reading.proofs.Pass.{passing_none, passing_digit, passing_point, added_none, added_digit, added_point, scanned_short}
use Rattle.reading.proofs.scan.scan_short.Goals as goal
use Rattle.reading.proofs.scan.scan_short.Goals.{then-is_ascii_digit, else-is_ascii_digit+then-b-eq46}

pub loop-at-init : goal.loop-at-init
loop-at-init c =
    let e = c.none-found.ensures in
    (rw e (passing_none c.args.text.now c.args.start c.requires.0), rw e (added_none c.args.text.now c.args.start))

pub with_digit-found-requires-clause-fits : goal.with_digit-found-requires-clause-fits
with_digit-found-requires-clause-fits c =
    lt_of_lt_of_le c.loop-at.invariant.1.small (pow-le {j = 18} (omega arith))

pub returns-else-b-eq46 : goal.returns-else-b-eq46
returns-else-b-eq46 c =
    let i = c.loop-at.invariant in
    let d = sym c.is_ascii_digit.ensures.value ∙ c.if-is_ascii_digit.false in
    scanned_short _ _ _ _ i.0 (λ _. neither _ d c.if-b-eq46.false) i.1

pub loop-at-preserved : goal.loop-at-preserved
loop-at-preserved c =
    let i = c.loop-at.invariant in
    let h = c.loop-at-test.true in
    elim c.if-is_ascii_digit.branch [
      | then-is_ascii_digit w ↦
          let d = sym c.is_ascii_digit.ensures.value ∙ w.if-is_ascii_digit.true in
          let e = w.found-is ∙ w.with_digit-found.ensures in
          (rw e (passing_digit _ _ _ _ i.0 h _ d), rw e (added_digit _ _ _ _ i.1 i.0.after h d))
      | else-is_ascii_digit+then-b-eq46 w ↦
          let q = w.if-b-eq46.true in
          let e = w.found-is ∙ w.with_point-found.ensures in
          (rw e (passing_point _ _ _ _ i.0 h q), rw e (added_point _ _ _ _ i.1 i.0.after h q))
    ]

pub returns : goal.returns
returns c =
    let end : c.loop-at.at ≡ length c.args.text.now = omega (arith, c.loop-at.auto, c.requires) in
    let i = c.loop-at.invariant in rw (← end) (scanned_short _ _ _ _ i.0 (λ h. absurd (omega arith)) i.1)
