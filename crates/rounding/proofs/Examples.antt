-- Worked examples of specs/Rounding.antt, computed: each direction with each sign. Assumes nothing.
use Prim.Native.Nat.{ℕ, ◌+◌, ◌-◌, ◌^◌}
use mathlib.Core.Path.{◌≡◌, refl}
use mathlib.Core.Bool.{Bool, true, false, ◌&&◌}
use lib.Dec.{eqb}
use lib.Ieee.{binary64, to_bits}
use Rattle.rounding.specs.declared.Direction.{Direction}
use Rattle.rounding.specs.declared.Direction.TheVariants.{Nearest, TowardZero, Up, Down}
use Rattle.rounding.specs.Rounding.{round_to}

abbrev rounded : Direction → Bool → ℕ → ℕ → ℕ
rounded d s num den = to_bits binary64 (round_to d binary64 s num den)

-- num / den to nearest, toward zero, up and down
abbrev above : ℕ → ℕ → ℕ → ℕ → ℕ → ℕ → Bool
above num den nearest towardZero up down =
    eqb (rounded Nearest false num den) nearest
    && eqb (rounded TowardZero false num den) towardZero
    && eqb (rounded Up false num den) up
    && eqb (rounded Down false num den) down

-- the same for -num / den, where the results are given without their sign
abbrev below : ℕ → ℕ → ℕ → ℕ → ℕ → ℕ → Bool
below num den nearest towardZero up down =
    eqb (rounded Nearest true num den) (0x8000000000000000 + nearest)
    && eqb (rounded TowardZero true num den) (0x8000000000000000 + towardZero)
    && eqb (rounded Up true num den) (0x8000000000000000 + up)
    && eqb (rounded Down true num den) (0x8000000000000000 + down)

-- 0; 3; 1 + 2^-54; 1 + 2^-53, a tie; 1 + 3 * 2^-54; 1 + 3 * 2^-53, a tie; 2 - 2^-53, a tie that carries into the exponent
pub normal_numbers :
    above 0 1 0 0 0 0
    && below 0 1 0 0 0 0
    && above 3 1 0x4008000000000000 0x4008000000000000 0x4008000000000000 0x4008000000000000
    && below 3 1 0x4008000000000000 0x4008000000000000 0x4008000000000000 0x4008000000000000
    && above (2 ^ 54 + 1) (2 ^ 54) 0x3ff0000000000000 0x3ff0000000000000 0x3ff0000000000001 0x3ff0000000000000
    && below (2 ^ 54 + 1) (2 ^ 54) 0x3ff0000000000000 0x3ff0000000000000 0x3ff0000000000000 0x3ff0000000000001
    && above (2 ^ 53 + 1) (2 ^ 53) 0x3ff0000000000000 0x3ff0000000000000 0x3ff0000000000001 0x3ff0000000000000
    && below (2 ^ 53 + 1) (2 ^ 53) 0x3ff0000000000000 0x3ff0000000000000 0x3ff0000000000000 0x3ff0000000000001
    && above (2 ^ 54 + 3) (2 ^ 54) 0x3ff0000000000001 0x3ff0000000000000 0x3ff0000000000001 0x3ff0000000000000
    && below (2 ^ 54 + 3) (2 ^ 54) 0x3ff0000000000001 0x3ff0000000000000 0x3ff0000000000000 0x3ff0000000000001
    && above (2 ^ 53 + 3) (2 ^ 53) 0x3ff0000000000002 0x3ff0000000000001 0x3ff0000000000002 0x3ff0000000000001
    && below (2 ^ 53 + 3) (2 ^ 53) 0x3ff0000000000002 0x3ff0000000000001 0x3ff0000000000001 0x3ff0000000000002
    && above (2 ^ 54 - 1) (2 ^ 53) 0x4000000000000000 0x3fffffffffffffff 0x4000000000000000 0x3fffffffffffffff
    && below (2 ^ 54 - 1) (2 ^ 53) 0x4000000000000000 0x3fffffffffffffff 0x3fffffffffffffff 0x4000000000000000
    ≡ true
unfolding to_bits round_to
normal_numbers = refl

-- 2^-1076; 2^-1075, a tie; 3 * 2^-1076; 3 * 2^-1075, a tie; 2^-1022 - 2^-1075, a tie that is the least normal number
pub subnormal_numbers :
    above 1 (2 ^ 1076) 0 0 1 0
    && below 1 (2 ^ 1076) 0 0 0 1
    && above 1 (2 ^ 1075) 0 0 1 0
    && below 1 (2 ^ 1075) 0 0 0 1
    && above 3 (2 ^ 1076) 1 0 1 0
    && below 3 (2 ^ 1076) 1 0 0 1
    && above 3 (2 ^ 1075) 2 1 2 1
    && below 3 (2 ^ 1075) 2 1 1 2
    && above (2 ^ 53 - 1) (2 ^ 1075) 0x0010000000000000 0x000fffffffffffff 0x0010000000000000 0x000fffffffffffff
    && below (2 ^ 53 - 1) (2 ^ 1075) 0x0010000000000000 0x000fffffffffffff 0x000fffffffffffff 0x0010000000000000
    ≡ true
unfolding to_bits round_to
subnormal_numbers = refl

-- 2^1024; 2^1024 - 2^970, a tie, and a little less; the largest number
pub overflows :
    above (2 ^ 1024) 1 0x7ff0000000000000 0x7fefffffffffffff 0x7ff0000000000000 0x7fefffffffffffff
    && below (2 ^ 1024) 1 0x7ff0000000000000 0x7fefffffffffffff 0x7fefffffffffffff 0x7ff0000000000000
    && above (2 ^ 1024 - 2 ^ 970) 1 0x7ff0000000000000 0x7fefffffffffffff 0x7ff0000000000000 0x7fefffffffffffff
    && below (2 ^ 1024 - 2 ^ 970) 1 0x7ff0000000000000 0x7fefffffffffffff 0x7fefffffffffffff 0x7ff0000000000000
    && above (2 ^ 1024 - 2 ^ 970 - 1) 1 0x7fefffffffffffff 0x7fefffffffffffff 0x7ff0000000000000 0x7fefffffffffffff
    && below (2 ^ 1024 - 2 ^ 970 - 1) 1 0x7fefffffffffffff 0x7fefffffffffffff 0x7fefffffffffffff 0x7ff0000000000000
    && above (2 ^ 1024 - 2 ^ 971) 1 0x7fefffffffffffff 0x7fefffffffffffff 0x7fefffffffffffff 0x7fefffffffffffff
    && below (2 ^ 1024 - 2 ^ 971) 1 0x7fefffffffffffff 0x7fefffffffffffff 0x7fefffffffffffff 0x7fefffffffffffff
    ≡ true
unfolding to_bits round_to
overflows = refl
