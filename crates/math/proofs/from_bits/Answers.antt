-- `math::from_bits` meets its contract. Assumes nothing.
use Rattle.math.proofs.Floats.{pattern_number, pattern_nan}
use lib.Ieee.{of_bits}
use Rattle.math.proofs.from_bits.Goals as goal

pub float_from_bits-result : goal.float_from_bits-result
float_from_bits-result c = pattern_number c.args.b c.if-b-gt-INFINITY.false

pub returns-then-b-gt-INFINITY : goal.returns-then-b-gt-INFINITY
unfolding of_bits
returns-then-b-gt-INFINITY c = pattern_nan c.args.b c.if-b-gt-INFINITY.true
