-- What the phases ask of a weight. Definitions only.
use Rattle.std.specs.Prelude.{Bool, false, cond, ℕ, ◌<◌, ◌%◌, ◌^◌, leb, Float}
use Rattle.std.specs.Float.{binary64}
use Rattle.std.specs.Float.Ieee.{to_bits}

-- -54 < x < 1024, by the bits
pub record Bounded (x : Float) : Type 0 where
  pub deep : to_bits binary64 x < 0xc04b000000000000
  pub large : to_bits binary64 x % 2 ^ 63 < 0x4090000000000000

-- step 5 decides the weight with the bits ux
unfoldable pub is_small : ℕ → Bool
is_small ux = let ax = ux % 2 ^ 63 in cond (leb ax 0x3970000000000000) false (leb ax 0x3cc0527dbd87e24d)
