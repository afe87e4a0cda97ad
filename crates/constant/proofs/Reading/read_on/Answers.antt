-- `constant::Reading::read_on` meets its contract. Assumes nothing.
use Prim.Native.Nat.{ℕ, ◌+◌, ◌-◌, ◌≤◌, ◌<◌}
use mathlib.Core.Path.{◌≡◌, refl}
use mathlib.Core.List.{List}
use native.Mathlib.Numerals.{add-one}
use native.Mathlib.Omega.{arith}
use lib.ListN.{length, take, get_or, length-take}
use lib.Seq.{take-suc, take-length}
use Rattle.constant.specs.declared.Reading.{Reading}
use Rattle.constant.specs.Machine.{read_from, pushed, Within, most_places}
use Rattle.constant.proofs.Kept.{read_from-append, within_read, within_le}
use Rattle.constant.proofs.Reading.read_on.Goals as goal

-- one byte more
more : (start : Reading) (piece : List ℕ) (i : ℕ) → i < length piece → read_from start (take (i + 1) piece) ≡ pushed (read_from start (take i piece)) (get_or piece i 0)
unfolding read_from
more start piece i h = rw (add-one, take-suc piece i 0 h, read_from-append) refl

room : (start : Reading) (piece : List ℕ) (i : ℕ) → i < length piece → length piece ≤ most_places → Within (most_places - length piece) start → Within (most_places - 1) (read_from start (take i piece))
room start piece i h l w = within_le _ _ _ (simp length-take (omega arith)) (within_read _ start (take i piece) w)

all : (start : Reading) (piece : List ℕ) (i : ℕ) → i ≡ length piece → read_from start (take i piece) ≡ read_from start piece
all start piece i e = rw (e, take-length)

pub loop-b-init : goal.loop-b-init
unfolding read_from
loop-b-init c = refl

pub push-requires : goal.push-requires
push-requires c = rw c.loop-b.invariant (room _ _ _ c.loop-b-test.true (omega arith) c.requires)

pub loop-b-preserved : goal.loop-b-preserved
loop-b-preserved c = rw (more c.args.self c.args.piece.now c.loop-b.b-index c.loop-b-test.true, ← c.loop-b.invariant) c.push.ensures

pub returns : goal.returns
returns c = rw c.loop-b.invariant (all c.args.self c.args.piece.now c.loop-b.b-index (omega arith))
