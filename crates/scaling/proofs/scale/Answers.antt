-- `scaling::scale` meets its contract. Assumes nothing.
use mathlib.Core.Path.{ap, ◌∙◌}
use mir.Syntax.{w32}
use mir.ValLaws.{to_z-of_z}
use Rattle.ieee754.specs.Operations.{scale_bits}
use Rattle.scaling.proofs.Powers.{scale_nan, scale_inf, scale_zero}
use Rattle.scaling.proofs.scale.Goals as goal
use Rattle.scaling.proofs.scale.Goals.{Then-m-gt-INFINITY, Start}

pub returns-then-m-gt-INFINITY : goal.returns-then-m-gt-INFINITY
returns-then-m-gt-INFINITY c = let t = (goal.at.returns-then-m-gt-INFINITY c).Then-m-gt-INFINITY in c.quiet.ensures ∙ scale_nan t.args.x t.args.n t.if-m-gt-INFINITY.true

pub returns-then-m-eq-INFINITY : goal.returns-then-m-eq-INFINITY
returns-then-m-eq-INFINITY c = let s = (goal.at.returns-then-m-eq-INFINITY c).Start in scale_inf s.args.x s.args.n s.ranges.x.fits c.if-m-eq-INFINITY.true

pub returns-then-m-eq0 : goal.returns-then-m-eq0
returns-then-m-eq0 c = let s = (goal.at.returns-then-m-eq0 c).Start in scale_zero s.args.x s.args.n s.ranges.x.fits c.if-m-eq0.true

pub returns : goal.returns
returns c = let s = (goal.at.returns c).Start in c.scale_regular.ensures ∙ ap (scale_bits s.args.x) (to_z-of_z w32 s.args.n s.ranges.n)
