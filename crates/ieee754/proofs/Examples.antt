-- Worked examples of specs/Operations.antt, computed, in its order: each clause of the special values, each direction. Assumes nothing.
use Prim.Native.Nat.{ℕ}
use mathlib.Core.Bool.{Bool, true, ◌&&◌}
use mathlib.Core.Path.{◌≡◌, refl}
use mathlib.Core.List.{List, [], ◌∷◌, map}
use native.Mathlib.Omega.{arith}
use lib.ListN.{replicate}
use lib.Dec.{eqb}
use lib.IntN.{ℤ, pos, negsuc}
use lib.Ieee.{binary64, to_bits, of_bits, nan_bits}
use Rattle.rounding.specs.declared.Direction.{Direction}
use Rattle.rounding.specs.declared.Direction.TheVariants.{Nearest, TowardZero, Up, Down}
use Rattle.ieee754.specs.Operations.{round_to_integral, scale_b, quiet, fused_bits, round_bits, floor_bits, scale_bits}
use Rattle.ieee754.specs.Nans.{Returned}
use Rattle.ieee754.proofs.Nans.{quiets}

-- ---- patterns

abbrev minus_zero : ℕ
minus_zero = 0x8000000000000000

-- 2^-1074
abbrev least : ℕ
least = 1

abbrev half : ℕ
half = 0x3fe0000000000000

abbrev one : ℕ
one = 0x3ff0000000000000

abbrev minus_one : ℕ
minus_one = 0xbff0000000000000

abbrev two : ℕ
two = 0x4000000000000000

abbrev minus_two : ℕ
minus_two = 0xc000000000000000

abbrev largest : ℕ
largest = 0x7fefffffffffffff

abbrev minus_largest : ℕ
minus_largest = 0xffefffffffffffff

abbrev infinity : ℕ
infinity = 0x7ff0000000000000

abbrev minus_infinity : ℕ
minus_infinity = 0xfff0000000000000

-- an invalid operation's NaN
abbrev invalid : ℕ
invalid = 0x7ff8000000000000

-- NaNs of either sign, the top fraction bit clear in the first two and set in the third, and what they are returned as
abbrev nan_a : ℕ
nan_a = 0x7ff0000000000001

abbrev nan_b : ℕ
nan_b = 0xfff7ffffffffffff

abbrev nan_c : ℕ
nan_c = 0xfff8000000000002

abbrev quiet_a : ℕ
quiet_a = 0x7ff8000000000001

abbrev quiet_b : ℕ
quiet_b = 0xffffffffffffffff

abbrev quiet_c : ℕ
quiet_c = 0xfff8000000000002

-- ---- what a NaN is returned as: of each sign the least and the largest with the top fraction bit clear, and set
pub quieted :
    map quiet (0x7ff0000000000001 ∷ 0x7ff7ffffffffffff ∷ 0x7ff8000000000000 ∷ 0x7fffffffffffffff ∷ 0xfff0000000000001 ∷ 0xfff7ffffffffffff ∷ 0xfff8000000000000 ∷ 0xffffffffffffffff ∷ [])
    ≡ 0x7ff8000000000001 ∷ 0x7fffffffffffffff ∷ 0x7ff8000000000000 ∷ 0x7fffffffffffffff ∷ 0xfff8000000000001 ∷ 0xffffffffffffffff ∷ 0xfff8000000000000 ∷ 0xffffffffffffffff ∷ []
unfolding quiet
quieted = refl

-- the last starred value is the NaN so, and the NaN itself is not
pub returned : Returned 0xfff0000000000001 0xfff8000000000001 × (Returned 0xfff0000000000001 0xfff0000000000001 → ⊥)
unfolding nan_bits quiet
returned = ((quiets 0xfff0000000000001 refl).0, λ r. clear refl r.top)
  where
    clear : {x : ℕ} → x ≡ 0 → x ≡ 1 → ⊥
    clear e f = omega arith

-- ---- fused multiply-add: special values

-- a * b plus -infinity, -1, -0, 0, 1, infinity and a NaN
abbrev plus_each : ℕ → ℕ → List ℕ
plus_each a b = map (fused_bits Nearest a b) (minus_infinity ∷ minus_one ∷ minus_zero ∷ 0 ∷ one ∷ infinity ∷ nan_c ∷ [])

-- zero times infinity, both ways round and with each sign: invalid, and with a NaN addend the addend
pub invalid_products :
    plus_each infinity 0
    ∷ plus_each 0 infinity
    ∷ plus_each minus_infinity 0
    ∷ plus_each 0 minus_infinity
    ∷ plus_each infinity minus_zero
    ∷ plus_each minus_zero infinity
    ∷ []
    ≡ replicate 6 (invalid ∷ invalid ∷ invalid ∷ invalid ∷ invalid ∷ invalid ∷ quiet_c ∷ [])
unfolding fused_bits
invalid_products = refl

-- a NaN times a number, an infinity, a zero and a NaN: the first of the three that is a NaN
pub nan_products :
    plus_each nan_a one
    ∷ plus_each nan_a infinity
    ∷ plus_each nan_a 0
    ∷ plus_each nan_a nan_b
    ∷ plus_each one nan_b
    ∷ plus_each infinity nan_b
    ∷ plus_each 0 nan_b
    ∷ []
    ≡ replicate 7 quiet_a
    ∷ replicate 7 quiet_a
    ∷ replicate 7 quiet_a
    ∷ replicate 7 quiet_a
    ∷ replicate 7 quiet_b
    ∷ replicate 7 quiet_b
    ∷ replicate 7 quiet_b
    ∷ []
unfolding fused_bits
nan_products = refl

-- an infinity times an infinity or a number: the infinity less itself is invalid
pub infinite_products :
    plus_each infinity infinity
    ∷ plus_each minus_infinity minus_infinity
    ∷ plus_each infinity one
    ∷ plus_each one infinity
    ∷ plus_each minus_infinity minus_one
    ∷ plus_each minus_one minus_infinity
    ∷ []
    ≡ replicate 6 (invalid ∷ infinity ∷ infinity ∷ infinity ∷ infinity ∷ infinity ∷ quiet_c ∷ [])
unfolding fused_bits
infinite_products = refl

pub negative_infinite_products :
    plus_each infinity minus_infinity
    ∷ plus_each minus_infinity infinity
    ∷ plus_each infinity minus_one
    ∷ plus_each minus_one infinity
    ∷ plus_each minus_infinity one
    ∷ plus_each one minus_infinity
    ∷ []
    ≡ replicate 6 (minus_infinity ∷ minus_infinity ∷ minus_infinity ∷ minus_infinity ∷ minus_infinity ∷ invalid ∷ quiet_c ∷ [])
unfolding fused_bits
negative_infinite_products = refl

-- 0 * 1, -0 * 1, 0 * -1, 1 * 1, -1 * 1, 1 * -1 and -1 * -1
pub finite_products :
    plus_each 0 one
    ∷ plus_each minus_zero one
    ∷ plus_each 0 minus_one
    ∷ plus_each one one
    ∷ plus_each minus_one one
    ∷ plus_each one minus_one
    ∷ plus_each minus_one minus_one
    ∷ []
    ≡ (minus_infinity ∷ minus_one ∷ 0 ∷ 0 ∷ one ∷ infinity ∷ quiet_c ∷ [])
    ∷ (minus_infinity ∷ minus_one ∷ minus_zero ∷ 0 ∷ one ∷ infinity ∷ quiet_c ∷ [])
    ∷ (minus_infinity ∷ minus_one ∷ minus_zero ∷ 0 ∷ one ∷ infinity ∷ quiet_c ∷ [])
    ∷ (minus_infinity ∷ 0 ∷ one ∷ one ∷ two ∷ infinity ∷ quiet_c ∷ [])
    ∷ (minus_infinity ∷ minus_two ∷ minus_one ∷ minus_one ∷ 0 ∷ infinity ∷ quiet_c ∷ [])
    ∷ (minus_infinity ∷ minus_two ∷ minus_one ∷ minus_one ∷ 0 ∷ infinity ∷ quiet_c ∷ [])
    ∷ (minus_infinity ∷ 0 ∷ one ∷ one ∷ two ∷ infinity ∷ quiet_c ∷ [])
    ∷ []
unfolding fused_bits
finite_products = refl

-- ---- fused multiply-add: sums, exact and rounded once

-- a * b + c to nearest
abbrev fused : ℕ → ℕ → ℕ → ℕ → Bool
fused a b c result = eqb (fused_bits Nearest a b c) result

-- 6 * 0.75 + 40; 0.75 * 6 + 0.625; 6 * 20 + 40; 0.75 * 0.375 + 0.625; 6 * 20 - 40; 6 * 0.75 - 40; -6 * 0.75 + 40; -6 * 20 + 40;
-- (1 + 2^-52)^2 - (1 + 2^-51); 2^-1074 * 0.5 + 2^-1074; the largest number * 2 - itself
pub sums :
    fused 0x4018000000000000 0x3fe8000000000000 0x4044000000000000 0x4046400000000000
    && fused 0x3fe8000000000000 0x4018000000000000 0x3fe4000000000000 0x4014800000000000
    && fused 0x4018000000000000 0x4034000000000000 0x4044000000000000 0x4064000000000000
    && fused 0x3fe8000000000000 0x3fd8000000000000 0x3fe4000000000000 0x3fed000000000000
    && fused 0x4018000000000000 0x4034000000000000 0xc044000000000000 0x4054000000000000
    && fused 0x4018000000000000 0x3fe8000000000000 0xc044000000000000 0xc041c00000000000
    && fused 0xc018000000000000 0x3fe8000000000000 0x4044000000000000 0x4041c00000000000
    && fused 0xc018000000000000 0x4034000000000000 0x4044000000000000 0xc054000000000000
    && fused 0x3ff0000000000001 0x3ff0000000000001 0xbff0000000000002 0x3970000000000000
    && fused least half least 2
    && fused largest two minus_largest largest
    ≡ true
unfolding fused_bits
sums = refl

-- ---- the directions: to nearest, toward zero, up and down

abbrev in_each : (Direction → ℕ) → ℕ → ℕ → ℕ → ℕ → Bool
in_each f nearest towardZero up down = eqb (f Nearest) nearest && eqb (f TowardZero) towardZero && eqb (f Up) up && eqb (f Down) down

-- a * b + c
abbrev fused_each : ℕ → ℕ → ℕ → ℕ → ℕ → ℕ → ℕ → Bool
fused_each a b c = in_each (λ d. fused_bits d a b c)

-- exact zero sums of unlike signs: 1 * 1 - 1; -1 * 1 + 1; 0 * 1 + -0; -0 * 1 + 0; then of like signs: 0 * 1 + 0; -0 * 1 + -0
pub zero_sums :
    fused_each one one minus_one 0 0 0 minus_zero
    && fused_each minus_one one one 0 0 0 minus_zero
    && fused_each 0 one minus_zero 0 0 0 minus_zero
    && fused_each minus_zero one 0 0 0 0 minus_zero
    && fused_each 0 one 0 0 0 0 0
    && fused_each minus_zero one minus_zero minus_zero minus_zero minus_zero minus_zero
    ≡ true
unfolding fused_bits
zero_sums = refl

-- 0 * infinity + 1; infinity - infinity; NaNs as a, as b and as c, in pairs and all three; 0 * infinity + a NaN
pub nans-in_each :
    fused_each 0 infinity one invalid invalid invalid invalid
    && fused_each infinity one minus_infinity invalid invalid invalid invalid
    && fused_each nan_a one one quiet_a quiet_a quiet_a quiet_a
    && fused_each one nan_b one quiet_b quiet_b quiet_b quiet_b
    && fused_each one one nan_c quiet_c quiet_c quiet_c quiet_c
    && fused_each nan_a nan_b one quiet_a quiet_a quiet_a quiet_a
    && fused_each nan_a one nan_c quiet_a quiet_a quiet_a quiet_a
    && fused_each one nan_b nan_c quiet_b quiet_b quiet_b quiet_b
    && fused_each nan_a nan_b nan_c quiet_a quiet_a quiet_a quiet_a
    && fused_each nan_c nan_b nan_a quiet_c quiet_c quiet_c quiet_c
    && fused_each 0 infinity nan_c quiet_c quiet_c quiet_c quiet_c
    ≡ true
unfolding fused_bits
nans-in_each = refl

-- 1 + 2^-1074; 1 - 2^-1074; -2^-1074 + 1; -1 - 2^-1074; the tie 1 + 3 * 2^-53; 2^-1074 * 2^-1074, and negative; the largest number * 2, and negative
pub inexact_sums :
    fused_each one one least one one 0x3ff0000000000001 one
    && fused_each one one 0x8000000000000001 one 0x3fefffffffffffff one 0x3fefffffffffffff
    && fused_each least minus_one one one 0x3fefffffffffffff one 0x3fefffffffffffff
    && fused_each minus_one one 0x8000000000000001 minus_one minus_one minus_one 0xbff0000000000001
    && fused_each one 0x3ff0000000000001 0x3ca0000000000000 0x3ff0000000000002 0x3ff0000000000001 0x3ff0000000000002 0x3ff0000000000001
    && fused_each least least 0 0 0 least 0
    && fused_each 0x8000000000000001 least 0 minus_zero minus_zero minus_zero 0x8000000000000001
    && fused_each largest two 0 infinity largest infinity largest
    && fused_each minus_largest two 0 minus_infinity minus_largest minus_largest minus_infinity
    ≡ true
unfolding fused_bits
inexact_sums = refl

-- ---- whole numbers

-- x to nearest, and downward
abbrev wholes : ℕ → ℕ → ℕ → Bool
wholes x nearest below = eqb (round_bits x) nearest && eqb (floor_bits x) below

-- -infinity, the largest number negative, -2.5, -1.5, -0.5, -2^-1074, -0, 0, 2^-1074, the largest subnormal number, 0.5 and the number
-- after it, 1.5, 2.5, the ties 2^51 + 0.5 and 2^52 - 0.5, 2^52 + 1, the largest number, infinity, NaNs
pub whole_numbers :
    wholes minus_infinity minus_infinity minus_infinity
    && wholes minus_largest minus_largest minus_largest
    && wholes 0xc004000000000000 minus_two 0xc008000000000000
    && wholes 0xbff8000000000000 minus_two minus_two
    && wholes 0xbfe0000000000000 minus_zero minus_one
    && wholes 0x8000000000000001 minus_zero minus_one
    && wholes minus_zero minus_zero minus_zero
    && wholes 0 0 0
    && wholes least 0 0
    && wholes 0x000fffffffffffff 0 0
    && wholes half 0 0
    && wholes 0x3fe0000000000001 one 0
    && wholes 0x3ff8000000000000 two one
    && wholes 0x4004000000000000 two two
    && wholes 0x4320000000000001 0x4320000000000000 0x4320000000000000
    && wholes 0x432fffffffffffff 0x4330000000000000 0x432ffffffffffffe
    && wholes 0x4330000000000001 0x4330000000000001 0x4330000000000001
    && wholes largest largest largest
    && wholes infinity infinity infinity
    && wholes nan_a quiet_a quiet_a
    && wholes nan_b quiet_b quiet_b
    && wholes nan_c quiet_c quiet_c
    ≡ true
unfolding round_bits floor_bits
whole_numbers = refl

abbrev whole_each : ℕ → ℕ → ℕ → ℕ → ℕ → Bool
whole_each x = in_each (λ d. to_bits binary64 (round_to_integral d (of_bits binary64 x)))

-- 0.5, -0.5, 1.5, -1.5
pub whole_in-each :
    whole_each half 0 0 one 0
    && whole_each 0xbfe0000000000000 minus_zero minus_zero minus_zero minus_one
    && whole_each 0x3ff8000000000000 two one two one
    && whole_each 0xbff8000000000000 minus_two minus_one minus_one minus_two
    ≡ true
unfolding to_bits of_bits round_to_integral
whole_in-each = refl

-- ---- scaling

-- -infinity, -0, 0, infinity and NaNs by 2^n
abbrev scaled_special : ℤ → List ℕ
scaled_special n = map (λ x. scale_bits x n) (minus_infinity ∷ minus_zero ∷ 0 ∷ infinity ∷ nan_a ∷ nan_b ∷ nan_c ∷ [])

pub scaled_special_lem :
    scaled_special (negsuc 0) ∷ scaled_special (pos 0) ∷ scaled_special (pos 1) ∷ []
    ≡ replicate 3 (minus_infinity ∷ minus_zero ∷ 0 ∷ infinity ∷ quiet_a ∷ quiet_b ∷ quiet_c ∷ [])
unfolding scale_bits
scaled_special_lem = refl

-- x * 2^n
abbrev scaled : ℕ → ℤ → ℕ → Bool
scaled x n result = eqb (scale_bits x n) result

-- the ends of n: -infinity, infinity and NaNs by 2^2147483647 and by 2^-2147483648
pub scaled_far :
    scaled minus_infinity (pos 2147483647) minus_infinity
    && scaled infinity (pos 2147483647) infinity
    && scaled nan_a (pos 2147483647) quiet_a
    && scaled nan_b (pos 2147483647) quiet_b
    && scaled minus_infinity (negsuc 2147483647) minus_infinity
    && scaled infinity (negsuc 2147483647) infinity
    && scaled nan_a (negsuc 2147483647) quiet_a
    && scaled nan_b (negsuc 2147483647) quiet_b
    ≡ true
unfolding scale_bits
scaled_far = refl

-- 1.5 and -1.5 by 2^3 and by 2^-3; 2^-1022 + 2^-1074 halved, a tie; 3 * 2^-1074 halved, a tie; -2^-1074 halved, a tie to -0;
-- 1 by 2^1023 and past it; -1 past it; 2^-1074 by 2^2097 and past it; 2^1023 by 2^-2098, a tie; the number after it; the largest by 2^-2099
pub scaled_numbers :
    scaled 0x3ff8000000000000 (pos 3) 0x4028000000000000
    && scaled 0xbff8000000000000 (pos 3) 0xc028000000000000
    && scaled 0x3ff8000000000000 (negsuc 2) 0x3fc8000000000000
    && scaled 0xbff8000000000000 (negsuc 2) 0xbfc8000000000000
    && scaled 0x0010000000000001 (negsuc 0) 0x0008000000000000
    && scaled 3 (negsuc 0) 2
    && scaled 0x8000000000000001 (negsuc 0) minus_zero
    && scaled one (pos 1023) 0x7fe0000000000000
    && scaled one (pos 1024) infinity
    && scaled minus_one (pos 1024) minus_infinity
    && scaled least (pos 2097) 0x7fe0000000000000
    && scaled least (pos 2098) infinity
    && scaled 0x7fe0000000000000 (negsuc 2097) 0
    && scaled 0x7fe0000000000001 (negsuc 2097) least
    && scaled largest (negsuc 2098) 0
    ≡ true
unfolding scale_bits
scaled_numbers = refl

abbrev scaled_each : ℕ → ℤ → ℕ → ℕ → ℕ → ℕ → Bool
scaled_each x n = in_each (λ d. to_bits binary64 (scale_b d (of_bits binary64 x) n))

-- 3 * 2^-1074 halved, and negative; the largest number doubled, and negative
pub scaled-in_each :
    scaled_each 3 (negsuc 0) 2 1 2 1
    && scaled_each 0x8000000000000003 (negsuc 0) 0x8000000000000002 0x8000000000000001 0x8000000000000001 0x8000000000000002
    && scaled_each largest (pos 1) infinity largest infinity largest
    && scaled_each minus_largest (pos 1) minus_infinity minus_largest minus_largest minus_infinity
    ≡ true
unfolding to_bits of_bits scale_b
scaled-in_each = refl
