-- Document 01, step 6: "x a whole number from -53 to 53: 2^x-1 exactly". By request A.5 it is read from a table of the 107 scores. Definitions only.
use Rattle.std.specs.Prelude.{◌≡◌, true, false, cond, ℕ, suc, ◌-◌, ◌^◌, ◌≤◌, T, ltb, ℤ, pos, negsuc, ◌-ℤ◌, ◌*ℤ◌, Float}
use Rattle.std.specs.Float.{binary64}
use Rattle.std.specs.Float.Ieee.{minus, round, add, le, fits, of_int, to_unsigned, to_signed}
use Rattle.std.specs.Float.Ieee.Scale.{finite}
use Rattle.rounding.specs.declared.Direction.TheVariants.{Nearest}
use Rattle.ieee754.specs.Operations.{scale_b}
use Rattle.exactness.specs.Values.{sign, value}
use Rattle.pair.specs.Pair.{bits}

-- the weight at the place p: p - 53
abbrev pub weight : ℕ → Float
weight p = of_int binary64 (minus p 53)

-- x is a whole number from -53 to 53, and not -0
pub record Whole (x : Float) : Type 0 where
  pub place : ℕ
  pub last : place ≤ 106
  pub is : x ≡ weight place

-- 2 ^ n - 1, and 2 ^ -n - 1 = -(2 ^ n - 1) / 2 ^ n
unfoldable pub power_less_one : ℤ → Float
power_less_one (pos n) = round binary64 false (2 ^ n - 1) 1
power_less_one (negsuc n) = round binary64 true (2 ^ suc n - 1) (2 ^ suc n)

unfoldable pub exp2m1_whole : Float → Float
exp2m1_whole x = power_less_one (to_signed 31 x)

-- 2 ^ 53 times r, and 2 ^ p - 2 ^ 53, in units of 2 ^ -1074
abbrev pub scaled_score : Float → ℤ
scaled_score r = value binary64 r *ℤ pos (2 ^ 53)

abbrev pub scaled_exact : ℕ → ℤ
scaled_exact p = (pos (2 ^ p) -ℤ pos (2 ^ 53)) *ℤ pos (2 ^ 1074)

-- r is exactly 2 ^ x - 1 for the weight x at the place p: 2 ^ 53 times r is 2 ^ (x + 53) - 2 ^ 53
pub record Exactly (p : ℕ) (r : Float) : Type 0 where
  pub held : T (fits binary64 r)
  pub is_finite : T (finite r)
  -- a zero is +0
  pub negative : sign r ≡ ltb p 53
  pub scaled : scaled_score r ≡ scaled_exact p

-- for each of the 107 weights there is one such float, and exp2m1_whole gives it
pub record WholeExact (p : ℕ) : Type 0 where
  pub exactly : Exactly p (exp2m1_whole (weight p))
  pub only : (r : Float) → Exactly p r → r ≡ exp2m1_whole (weight p)

-- the operations of exp2m1.rs: ((1u64 << i) - 1) as f64 for i >= 0, and else -1.0 + ldexp(1.0, i)
unfoldable pub operations : Float → Float
operations i =
    cond (le (bits 0) i) (of_int binary64 (pos (2 ^ to_unsigned 64 i - 1)))
    (add binary64 (bits 0xbff0000000000000) (scale_b Nearest (bits 0x3ff0000000000000) (to_signed 31 i)))

-- step 6 is what the paper says, and what the source does
pub record StepSix : Type 0 where
  pub exact : (p : ℕ) → p ≤ 106 → WholeExact p
  pub as_source : (p : ℕ) → p ≤ 106 → operations (weight p) ≡ exp2m1_whole (weight p)
