-- The values of binary64 patterns and their spacing, as whole numbers of 2 ^ -1074. Definitions only.
use Rattle.std.specs.Prelude.{◌≡◌, ℕ, suc, ◌-◌, ◌%◌, ◌^◌, ◌≤◌, ◌<◌, ℤ}
use Rattle.std.specs.Float.{binary64}
use Rattle.std.specs.Float.Ieee.{of_bits}
use Rattle.exactness.specs.Values.{magnitude, value}

-- the value of a pattern, and its size; 0 for a NaN and an infinity
abbrev pub value_of : ℕ → ℤ
value_of b = value binary64 (of_bits binary64 b)

abbrev pub size_of : ℕ → ℕ
size_of b = magnitude binary64 (of_bits binary64 b)

-- the pattern after that of its size
abbrev pub next : ℕ → ℕ
next b = suc (b % 2 ^ 63)

-- the gap from the size of a pattern to the next larger float
abbrev pub spacing : ℕ → ℕ
spacing b = size_of (next b) - size_of b

-- n is the next larger float's pattern: its size is larger, and no larger one is smaller than it
pub record NextLarger (b n : ℕ) : Type 0 where
  pub larger : size_of b < size_of n
  pub least : (c : ℕ) → size_of b < size_of c → size_of n ≤ size_of c

-- every number but the largest has a next one; the largest, an infinity and a NaN have none, and the spacing 0
pub record Spacings : Type 0 where
  pub there : (b : ℕ) → b % 2 ^ 63 < 0x7fefffffffffffff → NextLarger b (next b)
  pub nowhere : (b : ℕ) → 0x7fefffffffffffff ≤ b % 2 ^ 63 → spacing b ≡ 0
