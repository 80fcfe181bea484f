use Rattle.std.proofs.Common.{◌≡◌, ◌≤◌, ◌-◌, length}
use Rattle.line.specs.Feed.{Feeds}
use Rattle.line.proofs.feeding.feed.Given as goal

abbrev pub invariant-loop-fed : goal.invariant-loop-fed
invariant-loop-fed g l =
    Feeds g.R.Record.record_for l.chunk (record { from = l.from; count = 0 }) l.initial.pending l.initial.out l.fed l.pending l.out
    × (l.fed.from ≤ l.from → l.fed.count ≡ 0)

abbrev pub decreases-loop-fed : goal.decreases-loop-fed
decreases-loop-fed g l = length l.chunk - l.fed.from
