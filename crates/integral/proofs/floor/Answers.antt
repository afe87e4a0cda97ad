-- `integral::floor` meets its contract. Assumes nothing.
use mathlib.Core.Path.{◌∙◌}
use Rattle.integral.proofs.WholeNumbers.{floor_is}
use Rattle.integral.proofs.floor.Goals as goal

pub returns : goal.returns
returns c = c.integral_in.ensures ∙ floor_is c.args.x
