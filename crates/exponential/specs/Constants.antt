-- The constants of exp_1, exp_2, q_1 and q_2, each by its bit pattern. Definitions only.
use Rattle.std.specs.Prelude.{ℕ, List, [], ◌∷◌, get_or, Float}
use Rattle.std.specs.Float.{nan}
use Rattle.pair.specs.Pair.{bits}

-- log(2)
abbrev pub LN2H : Float
LN2H = bits 0x3fe62e42fefa39ef

abbrev pub LN2L : Float
LN2L = bits 0x3c7abc9e3b39803f

-- 2 ^ 12 / log(2)
abbrev pub INVLOG2 : Float
INVLOG2 = bits 0x40b71547652b82fe

-- log(2) / 2 ^ 12
abbrev pub LOG2H : Float
LOG2H = bits 0x3f262e42fefa39ef

abbrev pub LOG2L : Float
LOG2L = bits 0x3bbabc9e3b39803f

-- the coefficients of q_1
abbrev coefficients1 : List Float
coefficients1 =
    bits 0x3ff0000000000000 ∷  -- degree 0
    bits 0x3ff0000000000000 ∷  -- degree 1
    bits 0x3fe0000000000000 ∷  -- degree 2
    bits 0x3fc5555555995d37 ∷  -- degree 3
    bits 0x3fa55555558489dc ∷  -- degree 4
    []

abbrev pub Q1 : ℕ → Float
Q1 i = get_or coefficients1 i nan

-- the coefficients of q_2
abbrev coefficients2 : List Float
coefficients2 =
    bits 0x3ff0000000000000 ∷  -- degree 0
    bits 0x3ff0000000000000 ∷  -- degree 1
    bits 0x3fe0000000000000 ∷  -- degree 2
    bits 0x3fc5555555555555 ∷
    bits 0x3c655555555c4d26 ∷  -- degree 3: Q2 3, Q2 4
    bits 0x3fa5555555555555 ∷  -- degree 4
    bits 0x3f81111111111111 ∷  -- degree 5
    bits 0x3f56c16c3fbb4213 ∷  -- degree 6
    bits 0x3f2a01a023ede0d7 ∷  -- degree 7
    []

abbrev pub Q2 : ℕ → Float
Q2 i = get_or coefficients2 i nan
