-- `fast_fused::fused` meets its contract. Assumes nothing.
use mathlib.Core.Path.{◌≡◌, ◌∙◌, subst}
use Prim.Native.Nat.{ℕ, ◌≤◌, ◌<◌}
use native.Mathlib.Nat.{lt_of_lt_of_le}
use native.Mathlib.Omega.{arith}
use lib.Dec.{lit≤}
use Rattle.ieee754.proofs.Nans.{fused_numbers}
use Rattle.operands.specs.Machine.{magnitude, field_of, Middle}
use Rattle.fast_fused.specs.Machine.{Near, Small}
use Rattle.fast_fused.proofs.fused.Goals as goal
use Rattle.fast_fused.proofs.fused.Goals.{Then-is_near, Then-is_small}

at_fields : (P : ℕ → ℕ → ℕ → Type 0) {x y z x' y' z' : ℕ} → x ≡ x' → y ≡ y' → z ≡ z' → P x y z → P x' y' z'
at_fields P {x} {y} {z} {x'} {y'} {z'} e f g h = subst (λ (v : ℕ). P v y' z') e (subst (λ (v : ℕ). P x v z') f (subst (λ (v : ℕ). P x y v) g h))

pub fused_near-requires : goal.fused_near-requires
fused_near-requires c =
    at_fields Near c.field-x.ensures c.field-y.ensures c.field-z.ensures (c.is_near.ensures c.if-is_near.true)

pub fused_small-requires : goal.fused_small-requires
fused_small-requires c =
    at_fields Small c.field-x.ensures c.field-y.ensures c.field-z.ensures (c.is_small.ensures c.if-is_small.true)

-- with a field that is not the highest it is a number

number : (b : ℕ) → field_of b < 2047 → magnitude b ≤ 0x7ff0000000000000
number b h = omega arith

middle : {x : ℕ} → Middle x → x < 2047
middle h = lt_of_lt_of_le h.1 (lit≤ tt)

near : (x y z : ℕ) → Near x y z → z < 2047
near x y z n = let a = n.first.1 in let b = n.second.1 in let u = n.under in omega arith

pub returns-then-is_near : goal.returns-then-is_near
returns-then-is_near c =
    let n = fused_near-requires (goal.at.returns-then-is_near c).Then-is_near in
    c.fused_near.ensures ∙ fused_numbers _ _ _ _ (number _ (middle n.first)) (number _ (middle n.second)) (number _ (near _ _ _ n))

pub returns-then-is_small : goal.returns-then-is_small
returns-then-is_small c =
    let n = fused_small-requires (goal.at.returns-then-is_small c).Then-is_small in
    c.fused_small.ensures ∙ fused_numbers _ _ _ _ (number _ (middle n.first)) (number _ (middle n.second)) (number _ (middle n.third))
