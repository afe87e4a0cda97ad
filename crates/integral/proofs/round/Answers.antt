-- `integral::round` meets its contract. Assumes nothing.
use mathlib.Core.Path.{◌∙◌}
use Rattle.integral.proofs.WholeNumbers.{round_is}
use Rattle.integral.proofs.round.Goals as goal

pub returns : goal.returns
returns c = c.integral_in.ensures ∙ round_is c.args.x
