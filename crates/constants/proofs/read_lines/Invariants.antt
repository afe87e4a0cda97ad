-- `constants::read_lines` meets its contract: no more places are counted than bytes of the piece are read. Assumes nothing.
use Rattle.std.proofs.Common.{ℕ, ◌+◌, ◌-◌, ◌≤◌, length, IfSome}
use Rattle.constant.specs.Machine.{Within}
use Rattle.constants.proofs.read_lines.Given as goal

abbrev pub invariant-loop-end : goal.invariant-loop-end
invariant-loop-end g l = (length l.rest ≤ length l.piece) × ((n : ℕ) → IfSome l.initial.line (Within n) → IfSome l.line (Within (n + (length l.piece - length l.rest))))

abbrev pub decreases-loop-end : goal.decreases-loop-end
decreases-loop-end g l = length l.rest
