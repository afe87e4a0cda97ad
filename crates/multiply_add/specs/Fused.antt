-- The reply of the call fused (document 02, A.3). Err 11 is the refusal of this number, and Ok r is the float of the pattern r.
-- Definitions only.
use Rattle.std.specs.Prelude.{ℕ, Option, Some, None, Result, Ok, Err}
use Rattle.rounding.specs.Named.{direction_of}
use Rattle.rounding.specs.declared.Direction.{Direction}
use Rattle.ieee754.specs.Operations.{fused_bits}

-- a × b + c in the direction that is named, or 11
abbrev pub fused_in : Option Direction → ℕ → ℕ → ℕ → Result ℕ ℕ
fused_in (Some d) a b c = Ok (fused_bits d a b c)
fused_in None a b c = Err 11

-- for a direction byte and three patterns
abbrev pub fused_reply : ℕ → ℕ → ℕ → ℕ → Result ℕ ℕ
fused_reply direction a b c = fused_in (direction_of direction) a b c
