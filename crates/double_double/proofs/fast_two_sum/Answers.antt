-- `double_double::fast_two_sum` meets its contract. Assumes nothing.
use mathlib.Core.Path.{refl, sym, subst}
use lib.Dec.{T}
use Rattle.double_double.specs.Pairs.{fast_two_sum}
use Rattle.double_double.proofs.Exact.{fast_two_sum-exact}
use Rattle.double_double.proofs.fast_two_sum.Goals as goal

pub returns : goal.returns
unfolding fast_two_sum
returns c = record {
  value = refl;
  exact = fast_two_sum-exact c.args.a c.args.b (subst T (sym c.well_formed.0.1) tt) (subst T (sym c.well_formed.1.0.1) tt);
}
