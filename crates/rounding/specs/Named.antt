-- The byte that names a direction (document 02, A.3). Definitions only.
use Rattle.std.specs.Prelude.{ℕ, cond, eqb, Option, Some, None}
use Rattle.rounding.specs.declared.Direction.{Direction}
use Rattle.rounding.specs.declared.Direction.TheVariants.{Nearest, TowardZero, Up, Down}
use Rattle.rounding.specs.declared.UnknownDirection.{UnknownDirection}

-- 0 nearest, 1 toward zero, 2 up, 3 down; a byte above 3 names none
abbrev pub direction_of : ℕ → Option Direction
direction_of b =
    cond (eqb b 0) (Some Nearest)
    (cond (eqb b 1) (Some TowardZero)
    (cond (eqb b 2) (Some Up)
    (cond (eqb b 3) (Some Down)
    None)))

-- the number that refuses a byte which names none
abbrev pub refusal_of : UnknownDirection → ℕ
refusal_of e = 11
