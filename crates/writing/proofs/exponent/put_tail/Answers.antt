use native.Mathlib.Omega.{arith}
use Rattle.writing.proofs.Texts.{tail-above, tail-below, tail_none, tailed_above, tailed_below}
use Rattle.writing.proofs.exponent.put_tail.Goals as goal

pub put_marked-requires-clause-count : goal.put_marked-requires-clause-count
put_marked-requires-clause-count c = tailed_above _ c.requires.len c.if-adjusted-gt6177.true

pub put_marked-requires-then-adjusted-lt6177-clause-count : goal.put_marked-requires-then-adjusted-lt6177-clause-count
put_marked-requires-then-adjusted-lt6177-clause-count c = tailed_below _ c.requires.len c.if-adjusted-lt6177.true

pub returns-then-adjusted-gt6177 : goal.returns-then-adjusted-gt6177
returns-then-adjusted-gt6177 c = rw (tail-above _ c.if-adjusted-gt6177.true) c.put_marked.ensures

pub returns-then-adjusted-lt6177 : goal.returns-then-adjusted-lt6177
returns-then-adjusted-lt6177 c = rw (tail-below _ c.if-adjusted-lt6177.true) c.put_marked-then-adjusted-lt6177.ensures

pub returns-else-adjusted-lt6177 : goal.returns-else-adjusted-lt6177
returns-else-adjusted-lt6177 c = rw (tail_none c.args.adjusted (omega arith)) c.put_all.ensures
