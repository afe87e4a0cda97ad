-- The operations of IEEE 754-2019 that the language lacks: fused multiply-add (5.4.1), rounding to a whole number (5.3.1, 5.9) and
-- scaling by a power of two (5.3.3), over the floats of lib.Ieee. Each works out its result exactly and rounds once, in a direction.
-- Definitions only.
use Rattle.std.specs.Prelude.{ℕ, ◌+◌, ◌-◌, ◌*◌, ◌/◌, ◌%◌, ◌^◌, Bool, true, false, cond, List, [], ◌∷◌, ltb, eqb, ℤ, pos}
use Rattle.std.specs.Bool.{beq}
use lib.Ieee.{Float, nan, inf, fin, binary64, unlike, up, down, to_bits, of_bits, nan_bits}
use Rattle.rounding.specs.declared.Direction.{Direction}
use Rattle.rounding.specs.declared.Direction.TheVariants.{Nearest, TowardZero, Up, Down}
use Rattle.rounding.specs.Rounding.{whole, round_to}

-- ---- fused multiply-add: x * y + z

-- an exact product: invalid (7.2: a NaN, or zero times infinity), infinite, or ±num / den
pub data Product : Type 0 where
  invalid : Product
  infinite : Bool → Product
  exactly : Bool → ℕ → ℕ → Product

abbrev pub product : Float → Float → Product
product nan y = invalid
product (inf s) nan = invalid
product (inf s) (inf t) = infinite (unlike s t)
product (inf s) (fin t n d) = cond (eqb n 0) invalid (infinite (unlike s t))
product (fin s m e) nan = invalid
product (fin s m e) (inf t) = cond (eqb m 0) invalid (infinite (unlike s t))
product (fin s m e) (fin t n d) = exactly (unlike s t) (m * up e * (n * up d)) (down e * down d)

-- the sign of an exact zero sum of unlike signs (6.3)
abbrev pub zero_sign : Direction → Bool
zero_sign Nearest = false
zero_sign TowardZero = false
zero_sign Up = false
zero_sign Down = true

-- ±a / c + ±b / c. A zero sum of like signs keeps the sign.
unfoldable pub sum_to : Direction → Bool → ℕ → Bool → ℕ → ℕ → Float
unfolding round_to
sum_to d s a t b c =
    cond (beq s t) (round_to d binary64 s (a + b) c)
    (cond (ltb a b) (round_to d binary64 t (b - a) c)
    (cond (ltb b a) (round_to d binary64 s (a - b) c) (fin (zero_sign d) 0 (pos 0))))

-- An invalid product is a NaN with every addend, a NaN too.
unfoldable pub plus : Direction → Product → Float → Float
unfolding sum_to
plus d invalid z = nan
plus d (infinite s) nan = nan
plus d (infinite s) (inf t) = cond (beq s t) (inf s) nan
plus d (infinite s) (fin t n e) = inf s
plus d (exactly s a c) nan = nan
plus d (exactly s a c) (inf t) = inf t
plus d (exactly s a c) (fin t n e) = sum_to d s (a * down e) t (n * up e * c) (c * down e)

unfoldable pub fused_multiply_add : Direction → Float → Float → Float → Float
unfolding plus
fused_multiply_add d x y z = plus d (product x y) z

-- ---- x as a whole number: to nearest with ties to even it is roundeven, downward it is floor
-- A zero result has the sign of x. So -0.5 is -0 to nearest, a tie that goes to the even 0, and -1 downward.

unfoldable pub round_to_integral : Direction → Float → Float
unfolding round_to
round_to_integral d nan = nan
round_to_integral d (inf s) = inf s
round_to_integral d (fin s m e) = round_to d binary64 s (whole d s (m * up e) (down e)) 1

-- ---- scale_b: x * 2 ^ n. A zero, and an infinity on overflow, have the sign of x.

unfoldable pub scale_b : Direction → Float → ℤ → Float
unfolding round_to
scale_b d nan n = nan
scale_b d (inf s) n = inf s
scale_b d (fin s m e) n = round_to d binary64 s (m * up e * up n) (down e * down n)

-- ---- on bit patterns
-- The floats have one NaN, whose pattern is 0x7ff8000000000000: an invalid operation gives it. The patterns have many, each with a sign and
-- a payload, the fraction's bits below the top one (6.2.1): a NaN operand is returned with both (document 02, A.7).

-- a NaN with its sign and payload and with its top fraction bit set
unfoldable pub quiet : ℕ → ℕ
quiet x = x / 2 ^ 52 * 2 ^ 52 + 2 ^ 51 + x % 2 ^ 51

-- the first NaN among the operands, in their order, or else the result r
unfoldable pub first_nan : List ℕ → ℕ → ℕ
unfolding nan_bits quiet
first_nan [] r = r
first_nan (x ∷ xs) r = cond (nan_bits binary64 x) (quiet x) (first_nan xs r)

unfoldable pub fused_bits : Direction → ℕ → ℕ → ℕ → ℕ
unfolding to_bits of_bits fused_multiply_add first_nan
fused_bits d a b c = first_nan (a ∷ b ∷ c ∷ []) (to_bits binary64 (fused_multiply_add d (of_bits binary64 a) (of_bits binary64 b) (of_bits binary64 c)))

unfoldable pub round_bits : ℕ → ℕ
unfolding to_bits of_bits round_to_integral first_nan
round_bits x = first_nan (x ∷ []) (to_bits binary64 (round_to_integral Nearest (of_bits binary64 x)))

unfoldable pub floor_bits : ℕ → ℕ
unfolding to_bits of_bits round_to_integral first_nan
floor_bits x = first_nan (x ∷ []) (to_bits binary64 (round_to_integral Down (of_bits binary64 x)))

unfoldable pub scale_bits : ℕ → ℤ → ℕ
unfolding to_bits of_bits scale_b first_nan
scale_bits x n = first_nan (x ∷ []) (to_bits binary64 (scale_b Nearest (of_bits binary64 x) n))
