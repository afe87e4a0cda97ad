-- `phase_vectors::fast_power` is safe: the product lies in the range that exp_1 asks for. Assumes nothing.
use mathlib.Core.Path.{◌≡◌, sym, ap, subst}
use lib.Ieee.{Float}
use Rattle.pair.specs.declared.Pair.{Pair}
use Rattle.pair.specs.Pair.{pair}
use Rattle.double_double.specs.Pairs.{a_mul, s_mul}
use Rattle.exponential.specs.Constants.{LN2H, LN2L}
use Rattle.exponential.specs.Range.{InRange, InLogRange}
use Rattle.exponential.proofs.Range.{in_log_range}
use Rattle.phase_vectors.proofs.fast_power.Goals as goal

in_range : (x : Float) {p : Pair} → InRange x → p ≡ s_mul x (pair LN2H LN2L) → InLogRange p.hi
unfolding s_mul a_mul
in_range x r e = subst (λ (y : Float). InLogRange y) (ap (λ (p : Pair). p.hi) (sym e)) (in_log_range x r)

pub exp_1-requires : goal.exp_1-requires
exp_1-requires c = in_range _ c.requires c.s_mul-p.ensures
