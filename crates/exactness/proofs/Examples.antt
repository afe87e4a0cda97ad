-- Worked examples of specs/Values.antt, computed: a binary64 in units of 2 ^ -1074. Assumes nothing.
use Prim.Native.Nat.{ℕ, ◌-◌, ◌*◌, ◌^◌}
use mathlib.Core.Path.{◌≡◌, refl}
use lib.IntN.{ℤ, pos, neg_ℤ}
use lib.Ieee.{binary64, of_bits}
use Rattle.exactness.specs.Values.{value}

-- of a pattern
abbrev value_of : ℕ → ℤ
value_of x = value binary64 (of_bits binary64 x)

-- the smallest; -3 of it; the smallest normal number; -1.5; the largest; -0
pub values :
    (value_of 1 ≡ pos 1)
    × (value_of 0x8000000000000003 ≡ neg_ℤ (pos 3))
    × (value_of 0x0010000000000000 ≡ pos (2 ^ 52))
    × (value_of 0xbff8000000000000 ≡ neg_ℤ (pos (3 * 2 ^ 1073)))
    × (value_of 0x7fefffffffffffff ≡ pos ((2 ^ 53 - 1) * 2 ^ 2045))
    × (value_of 0x8000000000000000 ≡ pos 0)
unfolding of_bits
values = (refl, refl, refl, refl, refl, refl)
