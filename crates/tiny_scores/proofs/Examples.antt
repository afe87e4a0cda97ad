-- The bound at some weights, computed from its definitions, and what is no bound: half of the spacing, 1/2 + 2 ^ -40 of the gap below, the sum without one of its parts, another float,
-- a larger weight. Assumes nothing.
use mathlib.Core.Path.{◌≡◌, refl}
use Prim.Native.Nat.{ℕ, ◌+◌, ◌-◌, ◌*◌, ◌^◌, ◌<◌}
use native.Mathlib.Nat.{not-le_of_lt}
use lib.Dec.{lit≤, lit<}
use lib.IntN.{pos, nat_abs, ◌+ℤ◌, ◌-ℤ◌, ◌*ℤ◌}
use lib.Ieee.{binary64, round, add, sub, mul, neg, eq, le, lt, of_bits, to_bits}
use Rattle.ieee754.specs.Operations.{fused_multiply_add, round_to_integral}
use Rattle.exactness.specs.Values.{value}
use Rattle.rounding_errors.specs.Spacing.{value_of, size_of, spacing}
use Rattle.double_double.specs.Pairs.{fast_two_sum, fast_sum, a_mul, s_mul}
use Rattle.exceptions.specs.Table.{exceptions}
use Rattle.exceptions.specs.Lookup.{find, entry_at, entries_from, entries}
use Rattle.exponential.specs.Constants.{LN2H, LN2L}
use Rattle.exp2m1.specs.Constants.{C2}
use Rattle.exp2m1.specs.Phases.{exp2m1_two_terms, exp2m1_fast}
use Rattle.exp2m1.specs.Score.{is_whole, rounded, steps, score_bits}
use Rattle.exp2m1_tiny.specs.Tiny.{horner_step, degree4, exp2m1_fast_tiny}
use Rattle.tiny_scores.specs.TinyScores.{N, away, share, Close}

-- ---- some scores
-- an entry; the last weight below zero; one whose score is a power of two; one 2 ^ -40 of the spacing from a tie; and 2 ^ -24
abbrev entry : ℕ
entry = 0xba10c197520b26f4

abbrev last : ℕ
last = 0xbcc0527dbd87e24d

abbrev power : ℕ
power = 0x3cb71547652b82fe

abbrev tied : ℕ
tied = 0x3a0733bd83045862

abbrev larger : ℕ
larger = 0x3e70000000000000

pub scores :
    (score_bits entry ≡ 0xba073aa2cd72b7cd)
    × (score_bits last ≡ 0xbcb6a09e667f3bcb)
    × (score_bits power ≡ 0x3cb0000000000000)
    × (score_bits tied ≡ 0x3a00151d3e164fb5)
    × (score_bits larger ≡ 0x3e662e4306aa2971)
unfolding score_bits steps is_whole rounded find entries entries_from entry_at exceptions exp2m1_two_terms exp2m1_fast exp2m1_fast_tiny horner_step degree4 fast_two_sum fast_sum a_mul s_mul fused_multiply_add round_to_integral round add sub mul neg eq le lt of_bits to_bits
scores = (refl, refl, refl, refl, refl)

-- ---- they are close
pub close :
    Close (value_of entry) 0xba073aa2cd72b7cd
    × Close (value_of last) 0xbcb6a09e667f3bcb
    × Close (value_of power) 0x3cb0000000000000
    × Close (value_of tied) 0x3a00151d3e164fb5
unfolding of_bits
close = (lit≤ tt, lit≤ tt, lit≤ tt, lit≤ tt)

-- ---- what is no bound, or not close
-- half of the spacing
pub half : 2 ^ 39 * (spacing 0xba073aa2cd72b7cd * (N * N)) < 2 ^ 40 * away (value_of entry) 0xba073aa2cd72b7cd
unfolding of_bits
half = lit< tt

-- the same share of the gap to the next smaller float, which is half as wide at a power of two
pub gap_below : share * ((size_of 0x3cb0000000000000 - size_of 0x3cafffffffffffff) * (N * N)) < 2 ^ 40 * away (value_of power) 0x3cb0000000000000
unfolding of_bits
gap_below = lit< tt

-- the sum without C2 × x × x
pub no_square : share * (spacing 0xbcb6a09e667f3bcb * (N * N)) < 2 ^ 40 * nat_abs (value_of 0xbcb6a09e667f3bcb *ℤ pos (N * N) -ℤ (value binary64 LN2H +ℤ value binary64 LN2L) *ℤ value_of last *ℤ pos N)
unfolding of_bits
no_square = lit< tt

-- the sum without LN2L
pub no_low_part : share * (spacing 0xba073aa2cd72b7cd * (N * N)) < 2 ^ 40 * nat_abs (value_of 0xba073aa2cd72b7cd *ℤ pos (N * N) -ℤ (value binary64 LN2H *ℤ value_of entry *ℤ pos N +ℤ value binary64 C2 *ℤ value_of entry *ℤ value_of entry))
unfolding of_bits
no_low_part = lit< tt

-- the other neighbour of the tie; with 2 ^ -39 in the bound it would be close
pub neighbour : (Close (value_of tied) 0x3a00151d3e164fb6 → ⊥) × (2 ^ 40 * away (value_of tied) 0x3a00151d3e164fb6 < (share + 1) * (spacing 0x3a00151d3e164fb6 * (N * N)))
unfolding of_bits
neighbour = (not-le_of_lt (lit< tt), lit< tt)

-- the score of a larger weight
pub too_large : Close (value_of larger) 0x3e662e4306aa2971 → ⊥
unfolding of_bits
too_large = not-le_of_lt (lit< tt)
