-- `constant::Reading::read_on` meets its contract. The invariant: the bytes so far have been read. Assumes nothing.
use mathlib.Core.Path.{◌≡◌}
use lib.ListN.{take}
use Rattle.constant.specs.Machine.{read_from}
use Rattle.constant.proofs.Reading.read_on.Given as goal

abbrev pub invariant-loop-b : goal.invariant-loop-b
invariant-loop-b l = l.self ≡ read_from l.initial.self (take l.b-index l.piece)
