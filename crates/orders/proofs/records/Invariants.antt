use Rattle.std.proofs.Common.{◌*◌, ◌≤◌, length}
use Rattle.orders.proofs.records.Given as goal

abbrev pub invariant-loop-pair : goal.invariant-loop-pair
invariant-loop-pair l = l.end ≤ 5 * length l.yielded
