-- `multiply_add::infinite_product` meets its contract. Assumes nothing.
use mathlib.Core.Path.{◌≡◌, sym, ap, ◌∙◌}
use mathlib.Core.Bool.{Bool, beq}
use Prim.Native.Nat.{ℕ, ◌+◌, ◌≤◌, ◌<◌}
use native.Mathlib.Omega.{arith}
use Rattle.rounding.proofs.Pattern.{sign_le}
use Rattle.operands.specs.Machine.{magnitude}
use Rattle.operands.proofs.Signs.{beq_true}
use Rattle.multiply_add.proofs.Special.{infinite_like, infinite_unlike, infinite_finite}
use Rattle.multiply_add.proofs.infinite_product.Goals as goal

below : (x : ℕ) → x ≤ 0x7ff0000000000000 → (x ≡ 0x7ff0000000000000 → ⊥) → x < 0x7ff0000000000000
below x h n = omega arith

pub returns-then-s-negative : goal.returns-then-s-negative
returns-then-s-negative c =
    λ d.
    let a = c.args in
    infinite_like d a.s a.c c.ranges.c.fits c.if-z-eq-INFINITY.true (ap (λ (t : Bool). beq a.s t) (sym c.negative.ensures) ∙ c.if-s-negative.true) (beq_true a.s c.negative.result c.if-s-negative.true ∙ c.negative.ensures)

pub returns-else-s-negative : goal.returns-else-s-negative
returns-else-s-negative c =
    λ d.
    let a = c.args in
    infinite_unlike d a.s a.c c.if-z-eq-INFINITY.true (ap (λ (t : Bool). beq a.s t) (sym c.negative.ensures) ∙ c.if-s-negative.false)

pub overflow_add-result : goal.overflow_add-result
overflow_add-result c = omega (arith, sign_le c.args.s c.sign_bit.ensures)

pub returns : goal.returns
returns c =
    λ d.
    let a = c.args in
    ap (λ (x : ℕ). x + 0x7ff0000000000000) c.sign_bit.ensures ∙ infinite_finite d a.s a.c (below (magnitude a.c) c.requires c.if-z-eq-INFINITY.false)
