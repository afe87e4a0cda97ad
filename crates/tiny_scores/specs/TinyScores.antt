-- Request A.9, how close a tiny score is, over whole numbers: every float is a whole number of 1 / N for N = 2 ^ 1074. Definitions only.
use Rattle.std.specs.Prelude.{ℕ, ◌+◌, ◌*◌, ◌%◌, ◌^◌, ◌≤◌, ◌<◌, ℤ, pos, nat_abs, ◌+ℤ◌, ◌-ℤ◌, ◌*ℤ◌, T}
use Rattle.std.specs.Float.{binary64}
use Rattle.std.specs.Float.Ieee.Scale.{finite}
use Rattle.exactness.specs.Values.{value}
use Rattle.pair.specs.Pair.{bits}
use Rattle.rounding_errors.specs.Spacing.{value_of, size_of, spacing}
use Rattle.exponential.specs.Constants.{LN2H, LN2L}
use Rattle.exp2m1.specs.Constants.{C2}
use Rattle.exp2m1.specs.Score.{score_bits}

abbrev pub N : ℕ
N = 2 ^ 1074

-- N ^ 3 times "the exact (LN2H + LN2L) × x + C2 × x × x", from N times x
abbrev pub exact : ℤ → ℤ
exact x = (value binary64 LN2H +ℤ value binary64 LN2L) *ℤ x *ℤ pos N +ℤ value binary64 C2 *ℤ x *ℤ x

-- N ^ 3 times how far the score with the bits r lies from it
abbrev pub away : ℤ → ℕ → ℕ
away x r = nat_abs (value_of r *ℤ pos (N * N) -ℤ exact x)

-- 2 ^ 40 times 1/2 + 2 ^ -40
abbrev pub share : ℕ
share = 2 ^ 39 + 1

-- "within 1/2 + 2^-40 of its own spacing": both sides times 2 ^ 40 * N ^ 3
abbrev pub Close : ℤ → ℕ → Type 0
Close x r = 2 ^ 40 * away x r ≤ share * (spacing r * (N * N))

-- "2^-104 < |x| and ax at most 0x3cc0527dbd87e24d"
pub record Tiny (ux : ℕ) : Type 0 where
  pub above : N < 2 ^ 104 * size_of ux
  pub upto : ux % 2 ^ 63 ≤ 0x3cc0527dbd87e24d

-- "for every weight" of these; score_bits is what the contract of `score` gives as its reply
abbrev pub TinyScores : Type 0
TinyScores = (ux : ℕ) → ux < 2 ^ 64 → Tiny ux → Close (value_of ux) (score_bits ux)

-- what is close to one is a number: no NaN, and no infinity
abbrev pub CloseIsFinite : Type 0
CloseIsFinite = (ux r : ℕ) → Tiny ux → Close (value_of ux) r → T (finite (bits r))
