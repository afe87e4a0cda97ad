-- `exp2m1::exp2m1_fast` meets its contract: Patterns has the range that exp_1 asks for. Assumes nothing.
use mathlib.Core.Path.{◌≡◌, sym, ap, ◌∙◌, subst}
use mathlib.Core.Bool.{Bool, false}
use Prim.Native.Nat.{◌%◌, ◌^◌}
use lib.Dec.{T, leb}
use lib.Ieee.{Float, binary64, mul, to_bits, fits}
use borrow.Author.Tests.{leb-false}
use Rattle.pair.specs.declared.Pair.{Pair}
use Rattle.pair.specs.Pair.{pair}
use Rattle.double_double.specs.Pairs.{a_mul, s_mul}
use Rattle.exponential.specs.Constants.{LN2H, LN2L}
use Rattle.exponential.specs.Range.{InLogRange}
use Rattle.exponential.proofs.Range.{in_log_range}
use Rattle.exp2m1.specs.Range.{Bounded}
use Rattle.exp2m1.proofs.Patterns.{bounded_between}
use Rattle.exp2m1.proofs.exp2m1_fast.Goals as goal

-- the product's high part is x * LN2H

high : (x : Float) {p : Pair} → p ≡ s_mul x (pair LN2H LN2L) → mul binary64 x LN2H ≡ p.hi
unfolding s_mul a_mul
high x e = ap (λ (p : Pair). p.hi) (sym e)

in_range : (x : Float) {tiny : Bool} {p : Pair} → T (fits binary64 x) → Bounded x → tiny ≡ leb (to_bits binary64 x % 2 ^ 63) 0x3fc0000000000000 → tiny ≡ false
    → p ≡ s_mul x (pair LN2H LN2L) → InLogRange p.hi
in_range x f B t n e =
    subst (λ (y : Float). InLogRange y) (high x e) (in_log_range x (bounded_between 0x3fc0000000000000 x f B (leb-false _ _ (sym t ∙ n))))

pub exp_1-p-requires : goal.exp_1-p-requires
exp_1-p-requires c =
    in_range c.args.x (subst T (sym c.well_formed.0.1) tt) c.requires.0 c.requires.1 c.if-tiny.false c.s_mul-p.ensures
