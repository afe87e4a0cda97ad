-- Where exp_1 and exp_2 are called, and the whole numbers k that they then meet. Definitions only.
use Rattle.std.specs.Prelude.{◌≤◌, ◌<◌, ℤ, pos, negsuc, T, Float}
use Rattle.std.specs.Float.{binary64}
use Rattle.std.specs.Float.Ieee.{le, neg, mul}
use Rattle.pair.specs.Pair.{bits}
use Rattle.exponential.specs.Constants.{LN2H}

-- least ≤ x ≤ most, or least ≤ -x ≤ deepest
pub data Between (least most deepest x : Float) : Type 0 where
  above : T (le least x) → T (le x most) → Between least most deepest x
  below : T (le least (neg x)) → T (le (neg x) deepest) → Between least most deepest x

-- 1/8, 1024 and 54
abbrev pub least : Float
least = bits 0x3fc0000000000000

abbrev pub most : Float
most = bits 0x4090000000000000

abbrev pub deepest : Float
deepest = bits 0x404b000000000000

-- 1/8 ≤ x ≤ 1024 or -54 ≤ x ≤ -1/8, the arguments of exp_2
abbrev pub InRange : Float → Type 0
InRange x = Between least most deepest x

-- where such an x times log(2) lies, the arguments of exp_1
abbrev pub InLogRange : Float → Type 0
InLogRange y = Between (mul binary64 least LN2H) (mul binary64 most LN2H) (mul binary64 deepest LN2H) y

-- -54 * 2 ^ 12 ≤ k ≤ 1024 * 2 ^ 12
abbrev pub Index : ℤ → Type 0
Index (pos n) = n ≤ 4194304
Index (negsuc n) = n < 221184
