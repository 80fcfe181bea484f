use Rattle.limbs.proofs.Shifts.{stands_raised}
use Rattle.reading.proofs.Giving.{gives_finite}
use Rattle.reading.proofs.Points.{points_width}
use Rattle.reading.proofs.Cut.{stands_in, field_most}
use Rattle.reading.proofs.Whole.{whole-most, whole-counts, whole-steps}
use Rattle.reading.proofs.round.finite.Goals as goal

pub is_short-requires : goal.is_short-requires
is_short-requires c = let d = c.args.scan.now in points_width _ _ _ _ d.scanned d.within

pub finite-requires-clause-field : goal.finite-requires-clause-field
finite-requires-clause-field c =
    let n = c.requires.stands.0 in
    field_most n _ (c.place-p.ensures n (stands_raised n c.args.x c.requires.stands.1))

pub finite-requires-clause-coefficient : goal.finite-requires-clause-coefficient
finite-requires-clause-coefficient c =
    let short = c.is_short.ensures c.if-is_short.true in rw c.whole.ensures (whole-most c.args.scan.now short.one short.few)

pub finite-requires-clause-digits : goal.finite-requires-clause-digits
finite-requires-clause-digits c =
    let short = c.is_short.ensures c.if-is_short.true in
    rw (c.whole.ensures, c.digits.ensures) (whole-counts c.args.scan.now short.one)

pub returns-then-is_short : goal.returns-then-is_short
returns-then-is_short c = λ n k.
    let short = c.is_short.ensures c.if-is_short.true in
    let q = c.place-p.ensures n (stands_raised n c.args.x k) in
    let r = stands_in n _ q short.below short.above in
    rw (whole-steps c.args.scan.now short.one short.few n r.0 r.1) (gives_finite c.finite.ensures r.2 c.whole.ensures)
