-- The polynomials of exp2m1.rs for |x| <= 0.125, each coefficient by its bit pattern. Definitions only.
use Rattle.std.specs.Prelude.{ℕ, List, [], ◌∷◌, get_or, Float}
use Rattle.std.specs.Float.{nan}
use Rattle.pair.specs.Pair.{bits}

-- the polynomial of the fast phase for |x| <= 0.125
abbrev coefficients_p : List Float
coefficients_p =
    bits 0x3fe62e42fefa39ef ∷
    bits 0x3c7abd1697afcaf8 ∷  -- degree 1: P 0, P 1
    bits 0x3fcebfbdff82c58f ∷
    bits 0xbc65e5a1d09e1599 ∷  -- degree 2: P 2, P 3
    bits 0x3fac6b08d704a0bf ∷  -- degree 3
    bits 0x3f83b2ab6fba4e78 ∷  -- degree 4
    bits 0x3f55d87fe78a84e6 ∷  -- degree 5
    bits 0x3f2430912f86a480 ∷  -- degree 6
    bits 0x3eeffcbfbc1f2b36 ∷  -- degree 7
    bits 0x3eb62c0226c7f6d1 ∷  -- degree 8
    bits 0x3e7b539529819e63 ∷  -- degree 9
    bits 0x3e3e4d552bed5b9c ∷  -- degree 10
    []

abbrev pub P : ℕ → Float
P i = get_or coefficients_p i nan

-- the polynomial of the accurate phase for |x| <= 0.125
abbrev coefficients_q : List Float
coefficients_q =
    bits 0x3fe62e42fefa39ef ∷
    bits 0x3c7abc9e3b398040 ∷  -- degree 1: Q 0, Q 1
    bits 0x3fcebfbdff82c58f ∷
    bits 0xbc65e43a53e44dcf ∷  -- degree 2: Q 2, Q 3
    bits 0x3fac6b08d704a0c0 ∷
    bits 0xbc4d331627517168 ∷  -- degree 3: Q 4, Q 5
    bits 0x3f83b2ab6fba4e77 ∷
    bits 0x3c14e65df0779f8c ∷  -- degree 4: Q 6, Q 7
    bits 0x3f55d87fe78a6731 ∷
    bits 0x3bd0717fbf4bd050 ∷  -- degree 5: Q 8, Q 9
    bits 0x3f2430912f86c787 ∷
    bits 0x3bcbd2bdec9bcd42 ∷  -- degree 6: Q 10, Q 11
    bits 0x3eeffcbfc588b0c7 ∷
    bits 0xbb8e60aa6d5e4aa9 ∷  -- degree 7: Q 12, Q 13
    bits 0x3eb62c0223a5c824 ∷  -- degree 8
    bits 0x3e7b5253d395e7d4 ∷  -- degree 9
    bits 0x3e3e4cf5158b9160 ∷  -- degree 10
    bits 0x3dfe8cac734c6058 ∷  -- degree 11
    bits 0x3dbc3bd64f17199d ∷  -- degree 12
    bits 0x3d78161a17e05651 ∷  -- degree 13
    bits 0x3d33150b3d792231 ∷  -- degree 14
    bits 0x3cec184260bfad7e ∷  -- degree 15
    []

abbrev pub Q : ℕ → Float
Q i = get_or coefficients_q i nan
