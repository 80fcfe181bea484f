use Rattle.std.proofs.Common.{refl, arith}
use Rattle.line.proofs.Chunks.{feeds_none, feeds_then, same-room, room-left}
use Rattle.line.proofs.feeding.feed.Goals as goal

pub loop-fed-init : goal.loop-fed-init
loop-fed-init g c = (feeds_none _ _ _ _ _ (omega arith), λ h. refl)

pub overflow_sub-out : goal.overflow_sub-out
overflow_sub-out g c =
    let k = c.loop-fed.invariant.0 in
    omega (arith, room-left _ _ k, same-room _ _ k)

pub loop-fed-preserved : goal.loop-fed-preserved
loop-fed-preserved g c =
    let i = c.loop-fed.invariant in
    let a = c.advance-fed.ensures in
    (feeds_then _ _ i.0 a.feeds (omega arith), λ e. absurd (omega (arith, i.0.on, a.goes_on)))
