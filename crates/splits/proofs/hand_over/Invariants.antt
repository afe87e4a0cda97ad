-- `splits::hand_over` meets its contract: each take uses some bytes of what has come. Assumes nothing.
use Rattle.std.proofs.Common.{◌≤◌, ◌-◌, length}
use Rattle.splits.proofs.hand_over.Given as goal

abbrev pub invariant-loop-run : goal.invariant-loop-run
invariant-loop-run l = l.run.at ≤ length l.come

abbrev pub decreases-loop-run : goal.decreases-loop-run
decreases-loop-run l = length l.come - l.run.at
