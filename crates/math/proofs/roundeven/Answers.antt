-- `math::roundeven` meets its contract: Shift has the short way. Assumes nothing.
use lib.Ieee.{of_bits}
use Rattle.math.proofs.Floats.{round_floats}
use Rattle.math.proofs.Shift.{nearest_whole}
use Rattle.math.proofs.roundeven.Goals as goal

pub returns-then-r : goal.returns-then-r
unfolding of_bits
returns-then-r c = nearest_whole c.args.x c.if-x.true c.if-x-2.true c.if-r.true

pub returns-else-x : goal.returns-else-x
returns-else-x c =
    round_floats c.args.x c.from_bits.result c.to_bits.result c.round.result c.well_formed.0.1 c.to_bits.ensures c.round.ensures c.from_bits.ensures
