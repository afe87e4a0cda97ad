-- The 107 places, each by a test of all of them: the definition and the source's operations are exactly 2 ^ x - 1 there, and a table that passes the test has it at x + 53.
-- Assumes nothing.
use mathlib.Core.Path.{◌≡◌, sym, ap, ◌∙◌, subst}
use mathlib.Core.Bool.{Bool, ◌&&◌}
use mathlib.Core.List.{List}
use Prim.Native.Nat.{ℕ, ◌≤◌, ◌<◌}
use native.Mathlib.Omega.{arith}
use lib.Dec.{T, eqb, eqb→eq}
use lib.ListN.{get_or}
use lib.Ieee.{Float, nan, binary64, round, add, le, fits, of_bits, of_int, whole, in_unsigned, to_unsigned, to_signed}
use lib.Ieee.Fits.{and_l, and_r}
use Rattle.ieee754.specs.Operations.{scale_b}
use Rattle.pair.specs.Pair.{bits}
use Rattle.exp2m1_whole.specs.Whole.{weight, Whole, power_less_one, exp2m1_whole, Exactly, operations, StepSix}
use Rattle.exp2m1_whole.specs.Table.{every, same, exact, all_exact}
use Rattle.exp2m1_whole.proofs.Exact.{at_each, passed, one_float}

pub exactly_at : (score : ℕ → Float) → T (every (λ (p : ℕ). exact p (score p)) 107) → (p : ℕ) → p ≤ 106 → Exactly p (score p)
exactly_at score t p h = passed p (score p) (at_each (λ (k : ℕ). exact k (score k)) 107 t p (omega arith))

-- ---- the definition, and the source's operations
definition : T (every (λ (p : ℕ). exact p (exp2m1_whole (weight p))) 107)
unfolding every same exact exp2m1_whole power_less_one round fits of_int to_signed
definition = tt

source : T (every (λ (p : ℕ). exact p (operations (weight p))) 107)
unfolding every same exact operations scale_b round add le fits of_bits of_int to_unsigned to_signed
source = tt

defined : (p : ℕ) → p ≤ 106 → Exactly p (exp2m1_whole (weight p))
defined = exactly_at (λ (p : ℕ). exp2m1_whole (weight p)) definition

pub step_six : StepSix
step_six = record {
  exact = λ p h. record { exactly = defined p h; only = λ r R. one_float R (defined p h) };
  as_source = λ p h. one_float (exactly_at (λ (k : ℕ). operations (weight k)) source p h) (defined p h);
}

-- ---- the place of a weight
abbrev pub plus53 : Float → Float
plus53 x = add binary64 x (bits 0x404a800000000000)

counted : ℕ → Bool
counted p = in_unsigned binary64 64 (plus53 (weight p)) && eqb (to_unsigned 64 (plus53 (weight p))) p

places : T (every counted 107)
unfolding every counted add of_bits of_int whole in_unsigned to_unsigned
places = tt

module _ (x : Float) (W : Whole x) where
  found : T (counted W.place)
  found = at_each counted 107 places W.place (let h = W.last in omega arith)

  pub natural : T (in_unsigned binary64 64 (plus53 x))
  unfolding counted
  natural = subst (λ (y : Float). T (in_unsigned binary64 64 (plus53 y))) (sym W.is) (and_l (in_unsigned binary64 64 (plus53 (weight W.place))) _ found)

  place_is : to_unsigned 64 (plus53 x) ≡ W.place
  unfolding counted
  place_is = ap (λ (y : Float). to_unsigned 64 (plus53 y)) W.is ∙ eqb→eq _ _ (and_r (in_unsigned binary64 64 (plus53 (weight W.place))) _ found)

  pub inside : to_unsigned 64 (plus53 x) < 107
  inside = let h = W.last in let e = place_is in omega arith

  -- ---- the table
  pub entry : (scores : List Float) → T (all_exact scores) → get_or scores (to_unsigned 64 (plus53 x)) nan ≡ exp2m1_whole x
  unfolding all_exact
  entry scores t =
      ap (λ (p : ℕ). get_or scores p nan) place_is
      ∙ one_float (exactly_at (λ (p : ℕ). get_or scores p nan) t W.place W.last) (defined W.place W.last)
      ∙ ap exp2m1_whole (sym W.is)
