use Rattle.std.proofs.Common.{length, ◌-◌}
use Rattle.line.proofs.program.Program.feed.Given as goal

abbrev pub decreases-loop-from : goal.decreases-loop-from
decreases-loop-from g l = length l.block - l.from
