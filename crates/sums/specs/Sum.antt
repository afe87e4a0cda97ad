-- The sum of two floats as patterns (document 02, A.8): "a NaN sum is what fused gives for first × 1 + second". Every sum is that, and
-- proofs/FloatSum.antt proves that it is the float sum of lib.Ieee. Definitions only.
use Rattle.std.specs.Prelude.{ℕ, ◌≡◌, [], ◌∷◌, false}
use lib.Ieee.{Float, binary64, is_nan, of_bits, to_bits, add}
use Rattle.rounding.specs.declared.Direction.TheVariants.{Nearest}
use Rattle.ieee754.specs.Operations.{first_nan, fused_bits}

-- the pattern of 1
abbrev pub one : ℕ
one = 0x3ff0000000000000

unfoldable pub sum_bits : ℕ → ℕ → ℕ
unfolding fused_bits
sum_bits first second = fused_bits Nearest first one second

-- the float sum of lib.Ieee
abbrev pub float_sum : ℕ → ℕ → Float
float_sum first second = add binary64 (of_bits binary64 first) (of_bits binary64 second)

-- for every pair of patterns
pub record FloatSum : Type 0 where
  -- the pattern of the float sum, with the sign of a zero, where that is no NaN
  pub numbers : (a b : ℕ) → is_nan (float_sum a b) ≡ false → sum_bits a b ≡ to_bits binary64 (float_sum a b)
  -- and always, but for the first NaN among the two
  pub patterns : (a b : ℕ) → sum_bits a b ≡ first_nan (a ∷ b ∷ []) (to_bits binary64 (float_sum a b))
