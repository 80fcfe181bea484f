use mathlib.Core.Path.{◌∙◌}
use Rattle.reading.proofs.Rows.{row_front, row-behind-front, row-join}
use Rattle.reading.proofs.run.push_row.Goals as goal

pub push_few-longer-requires-clause-row : goal.push_few-longer-requires-clause-row
push_few-longer-requires-clause-row c = rw c.in-Some.ensures.cases.0 (row_front _ _ c.loop-eight.invariant.0)

pub loop-eight-preserved : goal.loop-eight-preserved
loop-eight-preserved c =
    let r = c.loop-eight.invariant.0 in
    rw (c.push_few-longer.ensures, c.in-Some.ensures.cases.0, c.in-Some.ensures.cases.1)
    (row-behind-front _ _ r, row-join _ _ r ∙ c.loop-eight.invariant.1)
