use Rattle.reading.proofs.Walk.{zeros_point, zeros_zero, zeros_other, zeros_end}
use Rattle.reading.proofs.run.first_other.Goals as goal
use Rattle.reading.proofs.run.first_other.Goals.{else-scan-i-ne48-via-then-scan-i-ne48+else-i-scan, else-scan-i-ne48-via-else-scan-i-ne48}

pub returns-then-i-scan : goal.returns-then-i-scan
returns-then-i-scan c =
    zeros_other _ _ _ _ _ c.loop-i.invariant c.loop-i-test.true c.requires.1 c.if-scan-i-ne48.true c.if-i-scan.true

pub loop-i-preserved : goal.loop-i-preserved
loop-i-preserved c =
    let z = c.loop-i.invariant in
    elim c.else-scan-i-ne48.branch [
      | else-scan-i-ne48-via-then-scan-i-ne48+else-i-scan w ↦
          zeros_point _ _ _ _ _ z c.loop-i-test.true c.requires.1 w.if-i-scan.false
      | else-scan-i-ne48-via-else-scan-i-ne48 w ↦
          zeros_zero _ _ _ _ _ z c.loop-i-test.true c.requires.1 w.if-scan-i-ne48.false
    ]

pub returns : goal.returns
returns c = zeros_end _ _ _ _ _ c.loop-i.invariant c.loop-i-test.false
