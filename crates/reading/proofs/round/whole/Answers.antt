use mathlib.Core.Path.{◌∙◌}
use native.Mathlib.Omega.{arith}
use Rattle.reading.proofs.Points.{stop_low, stop_within}
use Rattle.reading.proofs.Whole.{whole-digits, whole-value, whole-length}
use Rattle.reading.proofs.round.whole.Goals as goal

pub returns-then-scan-le-SHORT : goal.returns-then-scan-le-SHORT
returns-then-scan-le-SHORT c =
    let d = c.args.scan.now in c.of_u64.ensures ∙ whole-value d c.requires.one (omega (arith, d.within, c.if-scan-le-SHORT.true))

pub number-requires-clause-within : goal.number-requires-clause-within
number-requires-clause-within c =
    let d = c.args.scan.now in (stop_low _ _ _ _ d.scanned d.within, stop_within _ _ _ _ d.scanned d.within)

pub number-requires-clause-digits : goal.number-requires-clause-digits
number-requires-clause-digits c = whole-digits c.args.scan.now c.requires.one

pub number-requires-clause-few : goal.number-requires-clause-few
number-requires-clause-few c = whole-length c.args.scan.now c.requires.one c.requires.few
