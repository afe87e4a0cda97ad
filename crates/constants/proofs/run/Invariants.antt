-- `constants::run`: so many reads leave no more places counted than bytes were read. Assumes nothing.
use Rattle.std.proofs.Common.{◌*◌, ◌≡◌, length, IfSome}
use Rattle.constant.specs.Machine.{Within}
use Rattle.constants.proofs.run.Given as goal

abbrev pub invariant-loop : goal.invariant-loop
invariant-loop g l = (length l.piece ≡ 65536) × IfSome l.line (Within (l.counter * 65536))
