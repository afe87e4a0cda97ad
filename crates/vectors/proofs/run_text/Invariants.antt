-- `vectors::run_text`: each turn runs one line, and ends behind it. Assumes nothing.
use Rattle.std.proofs.Common.{length, ◌-◌}
use Rattle.vectors.specs.Text.{Reached}
use Rattle.vectors.proofs.run_text.Given as goal

abbrev pub invariant-loop-progress : goal.invariant-loop-progress
invariant-loop-progress g l = Reached l.progress l.text

abbrev pub decreases-loop-progress : goal.decreases-loop-progress
decreases-loop-progress g l = length l.text - l.progress.at
