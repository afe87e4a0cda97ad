-- Worked examples of specs/Spacing.antt, computed. Assumes nothing.
use Prim.Native.Nat.{◌*◌, ◌^◌}
use mathlib.Core.Path.{◌≡◌, refl}
use lib.IntN.{pos, neg_ℤ}
use lib.Ieee.{of_bits}
use Rattle.rounding_errors.specs.Spacing.{value_of, spacing}

-- 1; -1; the float below 1; the least of its size and -0; the largest but one, the largest, an infinity, and the last NaN
pub gaps :
    (spacing 0x3ff0000000000000 ≡ 2 ^ 1022)
    × (spacing 0xbff0000000000000 ≡ 2 ^ 1022)
    × (spacing 0x3fefffffffffffff ≡ 2 ^ 1021)
    × (spacing 1 ≡ 1)
    × (spacing 0x8000000000000000 ≡ 1)
    × (spacing 0x7feffffffffffffe ≡ 2 ^ 2045)
    × (spacing 0x7fefffffffffffff ≡ 0)
    × (spacing 0xfff0000000000000 ≡ 0)
    × (spacing 0xffffffffffffffff ≡ 0)
unfolding of_bits
gaps = (refl, refl, refl, refl, refl, refl, refl, refl, refl)

pub values : (value_of 0x3ff8000000000000 ≡ pos (3 * 2 ^ 1073)) × (value_of 0x8000000000000003 ≡ neg_ℤ (pos 3)) × (value_of 0x7ff0000000000000 ≡ pos 0)
unfolding of_bits
values = (refl, refl, refl)
