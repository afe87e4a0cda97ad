-- `sums::sum` meets its contract: the machine's sum where it is no NaN. Assumes nothing.
use Prim.Native.Nat.{ℕ}
use mathlib.Core.Path.{◌≡◌, sym, ap, ◌∙◌}
use mathlib.Core.Bool.{false}
use lib.Ieee.{Float, binary64, is_nan, to_bits, add}
use Rattle.sums.specs.Sum.{sum_bits, float_sum}
use Rattle.sums.proofs.FloatSum.{sum_numbers}
use Rattle.sums.proofs.sum.Goals as goal

number : (a b : ℕ) (s : Float) → s ≡ float_sum a b → is_nan s ≡ false → to_bits binary64 s ≡ sum_bits a b
number a b s e n = ap (to_bits binary64) e ∙ sym (sum_numbers a b (ap is_nan (sym e) ∙ n))

pub returns-then-is_nan : goal.returns-then-is_nan
unfolding sum_bits
returns-then-is_nan c = c.fused_nearest.ensures

pub returns : goal.returns
returns c =
    c.to_bits.ensures ∙ number c.args.a c.args.b _ (λ i. add binary64 (c.from_bits.ensures i) (c.from_bits-2.ensures i)) (sym c.is_nan.ensures.value ∙ c.if-is_nan.false)
