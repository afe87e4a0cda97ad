-- Worked examples of specs/Sum.antt, computed: rounding, overflow, zeros of both signs, infinities, and NaNs in either place. Assumes nothing.
use Prim.Native.Nat.{ℕ, ◌+◌}
use mathlib.Core.Path.{◌≡◌, refl}
use mathlib.Core.List.{[], ◌∷◌}
use lib.Ieee.{binary64, is_nan, of_bits, to_bits, add}
use Rattle.ieee754.specs.Operations.{first_nan}
use Rattle.sums.specs.Sum.{sum_bits, float_sum}
use Rattle.sums.proofs.FloatSum.{float_sum_lem}

abbrev minus : ℕ → ℕ
minus x = 0x8000000000000000 + x

abbrev infinity : ℕ
infinity = 0x7ff0000000000000

abbrev largest : ℕ
largest = 0x7fefffffffffffff

-- 1 + 2, a tie to even, an overflow, and the largest number with half its last digit less a bit
pub rounded :
    sum_bits 0x3ff0000000000000 0x4000000000000000 ∷ sum_bits 0x3ff0000000000000 0x3ca0000000000000 ∷ sum_bits largest largest ∷ sum_bits largest 0x7c8fffffffffffff ∷ []
    ≡ 0x4008000000000000 ∷ 0x3ff0000000000000 ∷ infinity ∷ largest ∷ []
unfolding sum_bits
rounded = refl

-- by the theorem, 1 + 2, and two NaNs
pub proved :
    (sum_bits 0x3ff0000000000000 0x4000000000000000 ≡ to_bits binary64 (float_sum 0x3ff0000000000000 0x4000000000000000))
    × (sum_bits 0xfff0000000000002 0x7ff0000000000003 ≡ first_nan (0xfff0000000000002 ∷ 0x7ff0000000000003 ∷ []) (to_bits binary64 (float_sum 0xfff0000000000002 0x7ff0000000000003)))
unfolding is_nan add of_bits
proved = (float_sum_lem.numbers 0x3ff0000000000000 0x4000000000000000 refl, float_sum_lem.patterns 0xfff0000000000002 0x7ff0000000000003)

-- zero sums: -0 where both are -0, and +0 otherwise
pub zeros :
    sum_bits 0 0 ∷ sum_bits 0 (minus 0) ∷ sum_bits (minus 0) 0 ∷ sum_bits (minus 0) (minus 0) ∷ sum_bits (minus largest) largest ∷ []
    ≡ 0 ∷ 0 ∷ 0 ∷ minus 0 ∷ 0 ∷ []
unfolding sum_bits
zeros = refl

-- infinities, of unlike signs; NaNs with reasons, of which the first is returned
pub nans :
    sum_bits infinity 0 ∷ sum_bits (minus infinity) infinity ∷ sum_bits 0xfff0000000000002 0x7ff0000000000003 ∷ sum_bits 0x7ff0000000000003 0xfff0000000000002 ∷ sum_bits 0 0xfff0000000000002 ∷ []
    ≡ infinity ∷ 0x7ff8000000000000 ∷ 0xfff8000000000002 ∷ 0x7ff8000000000003 ∷ 0xfff8000000000002 ∷ []
unfolding sum_bits
nans = refl
