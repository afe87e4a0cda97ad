-- The bytes that name no direction are those above 3, and each of the others names its own. Assumes nothing.
use Prim.Native.Nat.{ℕ, ◌<◌}
use mathlib.Core.Path.{◌≡◌, refl}
use mathlib.Core.List.{[], ◌∷◌, map}
use native.Mathlib.Omega.{arith}
use borrow.Author.Tests.{ne_eqb}
use Rattle.rounding.specs.Named.{direction_of}
use Rattle.rounding.specs.declared.Direction.TheVariants.{Nearest, TowardZero, Up, Down}
use Rattle.std.specs.Prelude.{Some, None}

pub above_three : (b : ℕ) → 3 < b → direction_of b ≡ None
above_three b h = rw (ne_eqb b 0 (λ e. omega arith), ne_eqb b 1 (λ e. omega arith), ne_eqb b 2 (λ e. omega arith), ne_eqb b 3 (λ e. omega arith)) refl

pub four_bytes : map direction_of (0 ∷ 1 ∷ 2 ∷ 3 ∷ []) ≡ Some Nearest ∷ Some TowardZero ∷ Some Up ∷ Some Down ∷ []
four_bytes = refl

pub other_bytes : (direction_of 4 ≡ None) × (direction_of 255 ≡ None)
other_bytes = (above_three 4 (omega arith), above_three 255 (omega arith))
