-- `integral::integral_in` meets its contract. Assumes nothing.
use mathlib.Core.Path.{◌∙◌}
use mathlib.Core.List.{[]}
use Prim.Native.Nat.{ℕ, ◌<◌}
use native.Mathlib.Omega.{arith}
use Rattle.ieee754.proofs.Nans.{nan_first, number_last}
use Rattle.operands.specs.Machine.{magnitude}
use Rattle.operands.proofs.Reading.{units, finite}
use Rattle.integral.proofs.WholeNumbers.{whole_large, whole_zero, whole_answer}
use Rattle.integral.proofs.integral_in.Goals as goal
use Rattle.integral.proofs.integral_in.Goals.{Start, After-whole_size, After-negative, Else-m-eq0}

below : (x : ℕ) → x < 0x4330000000000000 → x < 0x7ff0000000000000
below x h = omega arith

pub returns-then-m-gt-INFINITY : goal.returns-then-m-gt-INFINITY
returns-then-m-gt-INFINITY c = c.quiet.ensures ∙ nan_first _ [] _ c.if-m-gt-INFINITY.true

pub returns-then-m-ge-ALL_WHOLE : goal.returns-then-m-ge-ALL_WHOLE
returns-then-m-ge-ALL_WHOLE c = let s = (goal.at.returns-then-m-ge-ALL_WHOLE c).Start in whole_large s.args.dir s.args.x s.ranges.x.fits c.if-m-gt-INFINITY.false c.if-m-ge-ALL_WHOLE.true ∙ number_last _ _ c.if-m-gt-INFINITY.false

pub returns-then-m-eq0 : goal.returns-then-m-eq0
returns-then-m-eq0 c = let s = (goal.at.returns-then-m-eq0 c).Start in whole_zero s.args.dir s.args.x s.ranges.x.fits c.if-m-eq0.true ∙ number_last _ _ c.if-m-gt-INFINITY.false

pub returns : goal.returns
returns c =
    let w = (goal.at.returns c).After-whole_size in
    let n = (goal.at.returns c).After-negative in
    let e = (goal.at.returns c).Else-m-eq0 in
    let a = e.args in
    elim (finite a.x (below (magnitude a.x) e.if-m-ge-ALL_WHOLE.false)) [
      | units q k u ↦
          whole_answer a.dir a.x q k w.whole_size.result c.from_whole.result n.negative.result u n.negative.ensures (w.whole_size.ensures q k u.pattern u.small u.kept) c.from_whole.ensures
          ∙ number_last _ _ e.if-m-gt-INFINITY.false
    ]
