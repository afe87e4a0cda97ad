-- `fast_fused::fused_small` meets its contract. Assumes nothing.
use mathlib.Core.Path.{◌≡◌, sym, ap, ap₂, ◌∙◌}
use mathlib.Core.Bool.{Bool}
use Prim.Native.Nat.{ℕ, ◌+◌, ◌-◌, ◌*◌, ◌^◌, ◌≤◌, ◌<◌}
use lib.Ieee.{binary64, of_bits, to_bits}
use borrow.Author.Rules.{rules}
use native.Mathlib.Omega.{arith}
use Rattle.rounding.specs.declared.Direction.TheVariants.{Nearest}
use Rattle.ieee754.specs.Operations.{sum_to}
use Rattle.operands.specs.Machine.{sign_of}
use Rattle.multiply_add.proofs.Products.{fused_is, exact_sum, product_parts, addend_parts}
use Rattle.fast_fused.specs.Machine.{SmallParts}
use Rattle.fast_fused.proofs.SmallProducts.{small_lt, summands}
use Rattle.fast_fused.proofs.fused_small.Goals as goal
use Rattle.fast_fused.proofs.fused_small.Goals.{After-small_product-small}

unit : (n z : ℕ) → n ≤ z + 1053 → 64 + (z + 1073 - n) + n ≡ z + 1137
unit n z h = omega arith

far : (n z : ℕ) → n ≤ z + 1053 → 2 ≤ z + 1073 - n
far n z h = omega arith

bounds : (m e : ℕ) → 2 ^ 52 ≤ m → m < 2 ^ 53 → 651 ≤ e → e < 1551 → (2 ^ 62 ≤ m * 1024) × (m * 1024 < 2 ^ 63) × (1251 ≤ e + 1137) × (e + 1137 ≤ 3232)
bounds m e a b h k = (omega arith, omega arith, omega arith, omega arith)

pub small_product-small-requires : goal.small_product-small-requires
small_product-small-requires c = search rules

parts : (g : After-small_product-small) → SmallParts g.read_normal-x.result g.read_normal-y.result g.read_normal-z.result
parts g = small_product-small-requires g.before

pub add_small-requires : goal.add_small-requires
add_small-requires c =
    let g = (goal.at.add_small-requires c).After-small_product-small in
    let n = parts g in
    let z = g.read_normal-z.result in
    let o = bounds z.m z.e z.low z.high n.middle.0 n.middle.1 in
    (small_lt g.read_normal-x.result g.read_normal-y.result z _ _ 0 0 0 (unit _ z.e n.over) g.small_product-small.ensures (far _ z.e n.over), o.0, o.1, o.2, o.3)

pub returns : goal.returns
returns c =
    let g = (goal.at.returns c).After-small_product-small in
    let a = c.args in
    let x = c.read_normal-x.result in
    let y = c.read_normal-y.result in
    let z = c.read_normal-z.result in
    let n = parts g in
    exact_sum Nearest (of_bits binary64 a.a) (of_bits binary64 a.b) (of_bits binary64 a.c) (sign_of a.a) (sign_of a.b) (sign_of a.c) (x.m * 2 ^ x.e) (y.m * 2 ^ y.e) (z.m * 2 ^ z.e) c.add_small.result
    c.read_normal-x.ensures.0 c.read_normal-y.ensures.0 c.read_normal-z.ensures.0
    (λ A B q Q p p'.
    c.add_small.ensures A B q (summands x y z g.small_product-small.result (z.e + 1073 - (x.e + y.e)) A B q (unit (x.e + y.e) z.e n.over) g.small_product-small.ensures Q (p ∙ ap (λ (w : ℕ). w * q) (product_parts x y)) (p' ∙ ap (λ (w : ℕ). w * q) (addend_parts z)))
    ∙ ap₂ (λ (t t' : Bool). to_bits binary64 (sum_to Nearest t A t' B q)) c.unlike_signs.ensures c.negative.ensures)
    ∙ sym (fused_is Nearest a.a a.b a.c)
