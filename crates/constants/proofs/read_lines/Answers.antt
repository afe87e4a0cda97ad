-- `constants::read_lines` meets its contract. Assumes nothing.
use Rattle.std.proofs.Common.{arith, length-take}
use Rattle.constant.specs.Machine.{most_places}
use Rattle.constants.proofs.Lines.{read}
use Rattle.constants.proofs.read_lines.Goals as goal

pub finish-requires : goal.finish-requires
finish-requires g c =
    read _ most_places c.loop-end.line _ (c.loop-end.invariant.1 _ c.requires) c.fresh.ensures c.unwrap_or.ensures c.read_on-reading.ensures (simp length-take (omega arith))

pub returns-then-not-is_empty : goal.returns-then-not-is_empty
returns-then-not-is_empty g c n h =
    read _ _ c.loop-end.line _ (c.loop-end.invariant.1 n h) c.fresh-then-not-is_empty.ensures c.unwrap_or-then-not-is_empty.ensures c.read_on.ensures (omega arith)
