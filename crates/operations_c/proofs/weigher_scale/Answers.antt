-- `operations_c::weigher_scale` meets its contract: n comes back unchanged from the word in which it is passed. Assumes nothing.
use mathlib.Core.Path.{ap, ◌∙◌}
use mir.Syntax.{w32}
use mir.ValLaws.{to_z-of_z}
use Rattle.ieee754.specs.Operations.{scale_bits}
use Rattle.operations_c.proofs.weigher_scale.Goals as goal
use Rattle.operations_c.proofs.weigher_scale.Goals.{Start}

pub returns : goal.returns
returns c = let s = (goal.at.returns c).Start in
    c.scale.ensures ∙ ap (scale_bits s.args.x) (to_z-of_z w32 s.args.n s.ranges.n)
