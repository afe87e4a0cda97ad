-- A refusal can be told from a result, since its number is 11; and that at a byte of each. Assumes nothing.
use Prim.Native.Nat.{ℕ}
use mathlib.Core.Path.{◌≡◌, refl}
use native.Mathlib.Omega.{arith}
use Rattle.std.specs.Prelude.{Option, Some, None, Ok}
use Rattle.reply.specs.Told.{number, Apart}
use Rattle.rounding.specs.Named.{direction_of}
use Rattle.rounding.specs.declared.Direction.{Direction}
use Rattle.ieee754.specs.Operations.{fused_bits}
use Rattle.multiply_add.specs.Fused.{fused_in, fused_reply}
use Rattle.operations_c.specs.Told.{TellsApart}

apart : (n : Option Direction) (a b c : ℕ) → Apart (fused_in n a b c)
apart (Some d) a b c e = (fused_bits d a b c, refl)
apart None a b c e = absurd (omega arith)

pub tells_apart : TellsApart
tells_apart direction a b c = apart (direction_of direction) a b c

pub told : (x : ℕ) × (fused_reply 3 0 0 0 ≡ Ok x)
told = tells_apart 3 0 0 0 refl

pub refused : number (fused_reply 4 0 0 0) ≡ 11
refused = refl
