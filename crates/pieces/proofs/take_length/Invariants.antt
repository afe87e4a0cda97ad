-- `pieces::take_length` meets its contract: the bytes taken so far are the first of the steps. Assumes nothing.
use Rattle.std.proofs.Common.{◌≡◌}
use Rattle.partial_frame.proofs.Loops.{Begins}
use Rattle.pieces.proofs.take_length.Given as goal

abbrev pub invariant-loop-byte : goal.invariant-loop-byte
invariant-loop-byte l = record { counted : l.used ≡ l.byte-index; begins : Begins l.initial.frame l.piece l.frame l.used }
