use mathlib.Core.Path.{◌≡◌, sym, ap, ◌∙◌}
use native.Mathlib.Omega.{arith}
use lib.ListN.{length}
use Rattle.meaning.specs.Reading.{strip_zeros}
use Rattle.reading.specs.Run.{whole_run}
use Rattle.reading.proofs.Walk.{length_run}
use Rattle.reading.proofs.Points.{stop_low, stop_within}
use Rattle.reading.proofs.round.digits.Goals as goal

pub first_other-first-requires : goal.first_other-first-requires
first_other-first-requires c =
    let d = c.args.scan.now in (stop_low _ _ _ _ d.scanned d.within, stop_within _ _ _ _ d.scanned d.within)

pub returns : goal.returns
returns c =
    let d = c.args.scan.now in
    let z = c.first_other-first.ensures in
    let counted : length (strip_zeros (whole_run d)) ≡ c.count.result =
    ap length z.strip ∙ length_run _ _ _ d.text.now z.within (stop_within _ _ _ _ d.scanned d.within) ∙ sym c.count.ensures in
    omega (arith, counted, c.max.ensures)
