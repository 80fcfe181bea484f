use Rattle.std.proofs.Common.{arith, rules}
use Rattle.line.proofs.Wrote.{wrote_same, wrote_none}
use Rattle.line.proofs.Chunks.{last_line, no_last_line}
use Rattle.line.proofs.feeding.finish.Goals as goal

pub returns-then-is_empty : goal.returns-then-is_empty
returns-then-is_empty g c =
    let empty = c.is_empty.ensures.0 (search rules) in
    λ p h. wrote_same (no_last_line _ p (rw empty at h)) (wrote_none 0 _ (omega arith))

pub returns : goal.returns
returns g c =
    λ p h. wrote_same (last_line _ _ p (λ empty. let t = c.is_empty.ensures.1 empty in search rules) h) (c.«record».ensures p h)
