-- A pair by its parts, and a float by its bit pattern. Definitions only.
use Rattle.std.specs.Prelude.{ℕ, Float}
use Rattle.std.specs.Float.{binary64}
use Rattle.std.specs.Float.Ieee.{of_bits}
use Rattle.pair.specs.declared.Pair.{Pair}

abbrev pub pair : Float → Float → Pair
pair h l = record { hi = h; lo = l }

-- the float of a bit pattern
abbrev pub bits : ℕ → Float
bits b = of_bits binary64 b
