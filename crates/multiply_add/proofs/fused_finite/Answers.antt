-- `multiply_add::fused_finite` meets its contract. Assumes nothing.
use mathlib.Core.Path.{◌≡◌, sym, ap, ◌∙◌}
use mathlib.Core.Bool.{Bool}
use Prim.Native.Nat.{ℕ, ◌*◌, ◌^◌, ◌≤◌, ◌<◌}
use lib.Ieee.{Float, binary64, of_bits, to_bits, unlike}
use native.Mathlib.Omega.{arith}
use Rattle.ieee754.specs.Operations.{product, plus, exactly}
use Rattle.operands.specs.Machine.{sign_of, magnitude, Regular}
use Rattle.operands.proofs.Reading.{units, finite, read_zero}
use Rattle.multiply_add.proofs.Products.{fused_is}
use Rattle.multiply_add.proofs.Special.{inf_c, zero_left, zero_right}
use Rattle.multiply_add.proofs.fused_finite.Goals as goal
use Rattle.multiply_add.proofs.fused_finite.Goals.{then-x-eq0-via-then-x-eq0, then-x-eq0-via-else-x-eq0+then-y-eq0}

some : (x : ℕ) → (x ≡ 0 → ⊥) → 0 < x
some x n = omega arith

none : (x : ℕ) → (0 < x → ⊥) → x ≡ 0
none x n = omega arith

below : (x : ℕ) → x ≤ 0x7ff0000000000000 → (x ≡ 0x7ff0000000000000 → ⊥) → x < 0x7ff0000000000000
below x h n = omega arith

pub returns-then-z-eq-INFINITY : goal.returns-then-z-eq-INFINITY
returns-then-z-eq-INFINITY c = let a = c.args in inf_c a.dir a.a a.b a.c c.ranges.c.fits c.requires.0 c.requires.1 c.if-z-eq-INFINITY.true

pub returns-then-x-eq0 : goal.returns-then-x-eq0
returns-then-x-eq0 c =
    let a = c.args in
    let f : (p : ℕ) → 0 < p → c.zero_product.result ≡ to_bits binary64 (plus a.dir (exactly (unlike (sign_of a.a) (sign_of a.b)) 0 p) (of_bits binary64 a.c)) =
    λ p P. c.zero_product.ensures p P ∙ ap (λ (w : Bool). to_bits binary64 (plus a.dir (exactly w 0 p) (of_bits binary64 a.c))) c.unlike_signs.ensures
    in
    elim c.then-x-eq0.branch [
      | then-x-eq0-via-then-x-eq0 w ↦
          elim (finite a.b c.requires.1) [
            | units q k v ↦
                zero_left a.dir (of_bits binary64 a.b) (of_bits binary64 a.c) (sign_of a.a) (sign_of a.b) (q * 2 ^ k) (2 ^ 1074) c.zero_product.result v.value f
                ∙ ap (λ (x : Float). to_bits binary64 (plus a.dir (product x (of_bits binary64 a.b)) (of_bits binary64 a.c))) (sym (read_zero a.a w.if-x-eq0.true))
                ∙ sym (fused_is a.dir a.a a.b a.c)
          ]
      | then-x-eq0-via-else-x-eq0+then-y-eq0 w ↦
          elim (finite a.a c.requires.0) [
            | units q k v ↦
                zero_right a.dir (of_bits binary64 a.a) (of_bits binary64 a.c) (sign_of a.a) (sign_of a.b) (q * 2 ^ k) (2 ^ 1074) c.zero_product.result v.value f
                ∙ ap (λ (x : Float). to_bits binary64 (plus a.dir (product (of_bits binary64 a.a) x) (of_bits binary64 a.c))) (sym (read_zero a.b w.if-y-eq0.true))
                ∙ sym (fused_is a.dir a.a a.b a.c)
          ]
    ]

pub fused_zero_addend-requires : goal.fused_zero_addend-requires
fused_zero_addend-requires c =
    let a = c.args in
    let x : Regular a.a = (some (magnitude a.a) c.if-x-eq0.false, c.requires.0) in
    let y : Regular a.b = (some (magnitude a.b) c.if-y-eq0.false, c.requires.1) in
    (x, y, none (magnitude a.c) (λ z. c.requires.3 x y (z, below (magnitude a.c) c.requires.2 c.if-z-eq-INFINITY.false)))
