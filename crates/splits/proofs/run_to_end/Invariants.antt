-- `splits::run_to_end` is safe and ends: each piece has a byte at least. Assumes nothing.
use Rattle.std.proofs.Common.{◌≤◌, ◌<◌, ◌-◌, length}
use Rattle.splits.proofs.run_to_end.Given as goal

abbrev pub invariant-loop-run : goal.invariant-loop-run
invariant-loop-run l = (l.run.at ≤ length l.stream) × (l.word < 2147483647)

abbrev pub decreases-loop-run : goal.decreases-loop-run
decreases-loop-run l = length l.stream - l.run.at
