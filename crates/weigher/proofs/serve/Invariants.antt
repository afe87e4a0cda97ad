-- `weigher::serve` meets its contract: each turn is one hand_on, which uses some bytes of what is left. Assumes nothing.
use Rattle.std.proofs.Common.{length}
use Rattle.weigher.proofs.Serving.{Serving}
use Rattle.weigher.proofs.serve.Given as goal

abbrev pub invariant-loop-rest : goal.invariant-loop-rest
invariant-loop-rest g l = Serving l.initial.state l.piece l.initial.space l.state l.rest l.space

abbrev pub decreases-loop-rest : goal.decreases-loop-rest
decreases-loop-rest g l = length l.rest
