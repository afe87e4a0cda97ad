-- `exponential::scale` meets its contract: the words up to 0x7fe are patterns of numbers. Assumes nothing.
use mathlib.Core.Path.{sym, subst, ◌∙◌}
use mathlib.Core.Bool.{Bool, not}
use Prim.Native.Nat.{ℕ, ◌%◌, ◌≤◌}
use native.Mathlib.Omega.{arith}
use lib.Dec.{T}
use lib.Ieee.{binary64, nan_bits}
use lib.Ieee.Bits.{nan_bits_above}
use borrow.Author.Tests.{le-ltb}
use Rattle.exponential.proofs.scale.Goals as goal

number : (n : ℕ) → n % 0x8000000000000000 ≤ 0x7ff0000000000000 → T (not (nan_bits binary64 n))
number n h = subst (λ (b : Bool). T (not b)) (sym (nan_bits_above binary64 n ∙ le-ltb _ _ h)) tt

pub float_from_bits-scale : goal.float_from_bits-scale
float_from_bits-scale c = number _ (omega arith)

pub float_from_bits-scale-2 : goal.float_from_bits-scale-2
float_from_bits-scale-2 c = number _ (omega arith)
