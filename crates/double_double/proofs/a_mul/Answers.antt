-- `double_double::a_mul` meets its contract. Assumes nothing.
use mathlib.Core.Path.{sym, subst, ◌∙◌}
use lib.Dec.{T}
use lib.Ieee.{Float, binary64, mul}
use Rattle.pair.specs.Pair.{pair}
use Rattle.double_double.specs.Pairs.{a_mul}
use Rattle.double_double.specs.Exactness.{ProductExact}
use Rattle.double_double.proofs.Exact.{a_mul-exact}
use Rattle.double_double.proofs.a_mul.Goals as goal

pub returns-clause-exact : goal.returns-clause-exact
unfolding a_mul
returns-clause-exact c =
    let e = c.from_bits-lo.ensures ∙ c.error_bits-lo.ensures in
    subst (λ (lo : Float). ProductExact c.args.a c.args.b (pair (mul binary64 c.args.a c.args.b) lo)) (sym e)
    (a_mul-exact c.args.a c.args.b (subst T (sym c.well_formed.0.1) tt) (subst T (sym c.well_formed.1.0.1) tt))
