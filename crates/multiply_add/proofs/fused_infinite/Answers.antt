-- `multiply_add::fused_infinite` meets its contract. Assumes nothing.
use mathlib.Core.Path.{◌≡◌, sym, ap, ◌∙◌}
use mathlib.Core.Bool.{Bool}
use Prim.Native.Nat.{ℕ, ◌≤◌, ◌<◌}
use native.Mathlib.Nat.{eq-or-lt_of_le}
use mathlib.Core.Logic.{⊎_elim}
use lib.Ieee.{binary64, of_bits, to_bits}
use native.Mathlib.Omega.{arith}
use Rattle.ieee754.specs.Operations.{Product, plus, infinite}
use Rattle.operands.specs.Machine.{magnitude}
use Rattle.multiply_add.proofs.Products.{fused_is}
use Rattle.multiply_add.proofs.Special.{zero_inf, inf_zero, infinite_product}
use Rattle.multiply_add.proofs.fused_infinite.Goals as goal
use Rattle.multiply_add.proofs.fused_infinite.Goals.{then-x-eq0-via-then-x-eq0, then-x-eq0-via-else-x-eq0+then-y-eq0}

small : (x : ℕ) → x ≡ 0 → x < 0x7ff0000000000000
small x e = omega arith

-- a zero b has an infinite a beside it

full : (x y : ℕ) → x ≤ 0x7ff0000000000000 → (x < 0x7ff0000000000000 → y ≡ 0x7ff0000000000000) → y ≡ 0 → x ≡ 0x7ff0000000000000
full x y h f e = ⊎_elim (λ q. q) (λ l. absurd (no y e (f l))) (eq-or-lt_of_le h)
  where
    no : (y : ℕ) → y ≡ 0 → y ≡ 0x7ff0000000000000 → ⊥
    no y a b = omega arith

pub returns-then-x-eq0 : goal.returns-then-x-eq0
returns-then-x-eq0 c =
    λ d.
    let a = c.args in
    elim c.then-x-eq0.branch [
      | then-x-eq0-via-then-x-eq0 w ↦ zero_inf d a.a a.b a.c w.if-x-eq0.true (c.requires.3 (small (magnitude a.a) w.if-x-eq0.true))
      | then-x-eq0-via-else-x-eq0+then-y-eq0 w ↦ inf_zero d a.a a.b a.c (full (magnitude a.a) (magnitude a.b) c.requires.0 c.requires.3 w.if-y-eq0.true) w.if-y-eq0.true
    ]

pub returns : goal.returns
returns c =
    λ d.
    let a = c.args in
    c.infinite_product.ensures d
    ∙ ap (λ (p : Product). to_bits binary64 (plus d p (of_bits binary64 a.c))) (ap (λ (t : Bool). infinite t) c.unlike_signs.ensures ∙ sym (infinite_product a.a a.b c.requires.0 c.requires.1 c.requires.3 c.if-x-eq0.false c.if-y-eq0.false))
    ∙ sym (fused_is d a.a a.b a.c)
