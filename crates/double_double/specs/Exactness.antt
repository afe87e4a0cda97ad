-- What it means that hi + lo is exactly a sum or a product (document 01, "Pairs"): equations between whole numbers, since every finite value of a format is a
-- whole number of the format's smallest value, 2 ^ -1074 for binary64 (`value`, and `magnitude` without the sign). Definitions only.
use Rattle.std.specs.Prelude.{◌≡◌, ◌⊎◌, ◌*◌, ◌^◌, ◌≤◌, pos, ◌+ℤ◌, ◌*ℤ◌, T, Float}
use Rattle.std.specs.Float.{binary64}
use Rattle.std.specs.Float.Ieee.Scale.{finite}
use Rattle.exactness.specs.Values.{magnitude, value}
use Rattle.pair.specs.declared.Pair.{Pair}

-- hi + lo is exactly a + b, in units of 2 ^ -1074, where a and b are finite, b is not larger in size than a, and hi is finite
abbrev pub SumExact : Float → Float → Pair → Type 0
SumExact a b r =
    T (finite a) → T (finite b) → magnitude binary64 b ≤ magnitude binary64 a → T (finite r.hi)
    → T (finite r.lo) × (value binary64 r.hi +ℤ value binary64 r.lo ≡ value binary64 a +ℤ value binary64 b)

-- hi + lo is exactly a * b, in units of 2 ^ -2148, where a * b is zero, or is 2 ^ -968 at least in size and hi is finite
abbrev pub ProductExact : Float → Float → Pair → Type 0
ProductExact a b r =
    T (finite a) → T (finite b)
    → (magnitude binary64 a * magnitude binary64 b ≡ 0) ⊎ ((2 ^ 1180 ≤ magnitude binary64 a * magnitude binary64 b) × T (finite r.hi))
    → T (finite r.hi) × T (finite r.lo) × ((value binary64 r.hi +ℤ value binary64 r.lo) *ℤ pos (2 ^ 1074) ≡ value binary64 a *ℤ value binary64 b)
