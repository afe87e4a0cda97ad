-- `math::pattern` meets its contract. Assumes nothing.
use Rattle.math.proofs.Floats.{back}
use Rattle.math.proofs.pattern.Goals as goal

pub returns : goal.returns
returns c = back c.args.x c.to_bits.result c.well_formed.0.1 c.to_bits.ensures
