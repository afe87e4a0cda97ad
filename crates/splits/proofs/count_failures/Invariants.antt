-- `splits::count_failures` meets its contract: there are no more failures than runs so far. Assumes nothing.
use Rattle.std.proofs.Common.{◌≤◌}
use Rattle.splits.proofs.count_failures.Given as goal

abbrev pub invariant-loop-number : goal.invariant-loop-number
invariant-loop-number g l = l.failures ≤ l.number-counter
