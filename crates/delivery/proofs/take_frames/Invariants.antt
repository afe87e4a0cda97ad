-- `delivery::take_frames` meets its contract: each turn is one take of the book, and where it answered a run of whole frames. Assumes nothing.
use Prim.Native.Nat.{◌-◌}
use lib.ListN.{length}
use Rattle.service.specs.Service.{book_of}
use Rattle.delivery.specs.Delivery.{delivery_of}
use Rattle.delivery.proofs.Takes.{Going}
use Rattle.delivery.proofs.take_frames.Given as goal

abbrev pub invariant-loop-used : goal.invariant-loop-used
invariant-loop-used l = Going (delivery_of (book_of l.initial.state) l.piece (length l.initial.answers)) l.piece l.initial.answers l.answers l.state l.used l.len

abbrev pub decreases-loop-used : goal.decreases-loop-used
decreases-loop-used l = length l.piece - l.used
