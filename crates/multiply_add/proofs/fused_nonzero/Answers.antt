-- `multiply_add::fused_nonzero` meets its contract. Assumes nothing.
use mathlib.Core.Path.{sym, ap, ap₂, ◌∙◌}
use mathlib.Core.Bool.{Bool}
use Prim.Native.Nat.{ℕ, ◌*◌, ◌^◌}
use lib.Ieee.{binary64, of_bits, to_bits}
use Rattle.ieee754.specs.Operations.{sum_to}
use Rattle.operands.specs.Machine.{sign_of}
use Rattle.multiply_add.proofs.Products.{fused_is, exact_sum, product_parts, addend_parts}
use Rattle.multiply_add.proofs.fused_nonzero.Goals as goal

pub returns : goal.returns
returns c =
    let a = c.args in
    let x = c.read.result in
    let y = c.read-2.result in
    let z = c.read-3.result in
    exact_sum a.dir (of_bits binary64 a.a) (of_bits binary64 a.b) (of_bits binary64 a.c) (sign_of a.a) (sign_of a.b) (sign_of a.c) (x.m * 2 ^ x.e) (y.m * 2 ^ y.e) (z.m * 2 ^ z.e) c.fused_parts.result
    c.read.ensures c.read-2.ensures c.read-3.ensures
    (λ A B q Q p p'.
    c.fused_parts.ensures A B q Q (p ∙ ap (λ (w : ℕ). w * q) (product_parts x y)) (p' ∙ ap (λ (w : ℕ). w * q) (addend_parts z))
    ∙ ap₂ (λ (t t' : Bool). to_bits binary64 (sum_to a.dir t A t' B q)) c.unlike_signs-s.ensures c.negative.ensures)
    ∙ sym (fused_is a.dir a.a a.b a.c)
