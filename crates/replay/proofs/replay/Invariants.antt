-- `replay::replay` is safe and ends: the state stays good, so that each turn uses some bytes of the stream. Assumes nothing.
use Rattle.std.proofs.Common.{◌≡◌, ◌<◌, true, length}
use Rattle.service.specs.Service.{is_good}
use Rattle.replay.proofs.replay.Given as goal

abbrev pub invariant-loop-rest : goal.invariant-loop-rest
invariant-loop-rest g l = (0 < l.size) × (516 ≡ length l.answer) × (is_good l.state ≡ true)

abbrev pub decreases-loop-rest : goal.decreases-loop-rest
decreases-loop-rest g l = length l.rest
