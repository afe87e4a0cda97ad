-- `weigher::serve_input` is safe: the state is good at each turn, so that what is read can be handed on. Assumes nothing.
use Rattle.std.proofs.Common.{◌≡◌, true, length}
use Rattle.service.specs.Service.{is_good}
use Rattle.weigher.proofs.serve_input.Given as goal

abbrev pub invariant-loop : goal.invariant-loop
invariant-loop g l = (65536 ≡ length l.piece) × (459784 ≡ length l.space) × (is_good l.state ≡ true)
