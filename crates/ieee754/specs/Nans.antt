-- Request A.7: "that NaN with its sign and payload and with its top fraction bit set"; and that nothing but the bits of a NaN depends on it. Definitions only.
use Rattle.std.specs.Prelude.{◌≡◌, true, ℕ, ◌/◌, ◌%◌, ◌^◌, ℤ}
use Rattle.std.specs.Float.{binary64}
use Rattle.std.specs.Float.Ieee.{nan_bits, of_bits}
use Rattle.rounding.specs.declared.Direction.{Direction}
use Rattle.rounding.specs.declared.Direction.TheVariants.{Nearest, Down}
use Rattle.ieee754.specs.Operations.{fused_multiply_add, round_to_integral, scale_b, quiet, fused_bits, round_bits, floor_bits, scale_bits}

-- y is "that NaN" x, with all of this
pub record Returned (x y : ℕ) : Type 0 where
  pub nan : nan_bits binary64 y ≡ true
  pub sign : y / 2 ^ 63 ≡ x / 2 ^ 63
  pub payload : y % 2 ^ 51 ≡ x % 2 ^ 51
  pub top : y / 2 ^ 51 % 2 ≡ 1

-- quiet gives that for every NaN, and no other pattern is that
abbrev pub Quiets : Type 0
Quiets = (x : ℕ) → nan_bits binary64 x ≡ true → Returned x (quiet x) × ((y : ℕ) → Returned x y → y ≡ quiet x)

-- a result on patterns is read as the result on floats, a NaN too
pub record SameFloats : Type 0 where
  pub fused : (d : Direction) (a b c : ℕ) → of_bits binary64 (fused_bits d a b c) ≡ fused_multiply_add d (of_bits binary64 a) (of_bits binary64 b) (of_bits binary64 c)
  pub round : (x : ℕ) → of_bits binary64 (round_bits x) ≡ round_to_integral Nearest (of_bits binary64 x)
  pub floor : (x : ℕ) → of_bits binary64 (floor_bits x) ≡ round_to_integral Down (of_bits binary64 x)
  pub scale : (x : ℕ) (n : ℤ) → of_bits binary64 (scale_bits x n) ≡ scale_b Nearest (of_bits binary64 x) n
