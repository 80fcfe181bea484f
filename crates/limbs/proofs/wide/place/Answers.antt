use Rattle.limbs.proofs.Shifts.{place_minus, place_below, place_plus, place_above}
use Rattle.limbs.proofs.wide.place.Goals as goal

pub returns-then-n-le6176 : goal.returns-then-n-le6176
returns-then-n-le6176 c n h = place_minus n _ h c.if-x.true c.if-n-le6176.true

pub returns-then-x : goal.returns-then-x
returns-then-x c n h = place_below n _ h c.if-x.true c.if-n-le6176.false c.min.ensures

pub returns-then-n-le6111 : goal.returns-then-n-le6111
returns-then-n-le6111 c n h = place_plus n _ h c.if-x.false c.if-n-le6111.true

pub returns : goal.returns
returns c n h = place_above n _ h c.if-x.false c.if-n-le6111.false c.min-2.ensures
