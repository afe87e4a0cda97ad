-- `multiply_add::fused_in` meets its contract. Assumes nothing.
use mathlib.Core.Path.{◌∙◌}
use Prim.Native.Nat.{ℕ, ◌≤◌}
use native.Mathlib.Nat.{le_of_lt}
use Rattle.ieee754.proofs.Nans.{fused_numbers}
use Rattle.operands.specs.Machine.{magnitude, Regular}
use Rattle.multiply_add.proofs.fused_in.Goals as goal

number : (x : ℕ) → Regular x → magnitude x ≤ 0x7ff0000000000000
number x h = le_of_lt h.1

pub returns-then-is_regular-3 : goal.returns-then-is_regular-3
returns-then-is_regular-3 c =
    c.fused_nonzero.ensures
    ∙ fused_numbers _ _ _ _ (number _ (c.is_regular.ensures.0 c.if-is_regular.true)) (number _ (c.is_regular-then-is_regular.ensures.0 c.if-is_regular-2.true)) (number _ (c.is_regular-then-is_regular-2.ensures.0 c.if-is_regular-3.true))
