-- `runs::answer_run` meets its contract: each turn is one whole frame more. Assumes nothing.
use Prim.Native.Nat.{◌-◌}
use lib.ListN.{length}
use Rattle.runs.proofs.Counting.{Counted}
use Rattle.runs.proofs.answer_run.Given as goal

abbrev pub invariant-loop-used : goal.invariant-loop-used
invariant-loop-used l = Counted l.initial.view l.piece l.view l.accepted l.refused l.used l.len l.initial.answers l.answers

abbrev pub decreases-loop-used : goal.decreases-loop-used
decreases-loop-used l = length l.piece - l.used
