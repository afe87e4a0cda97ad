-- `multiply_add::fused_zero_addend` meets its contract. Assumes nothing.
use mathlib.Core.Path.{sym, ap, ◌∙◌}
use mathlib.Core.Bool.{Bool}
use Prim.Native.Nat.{ℕ, ◌*◌, ◌^◌}
use lib.Ieee.{Float, binary64, of_bits, to_bits}
use Rattle.rounding.specs.Rounding.{round_to}
use Rattle.ieee754.specs.Operations.{product, plus}
use Rattle.operands.specs.Machine.{sign_of}
use Rattle.operands.proofs.Reading.{read_zero}
use Rattle.multiply_add.proofs.Products.{fused_is, exact_product, product_parts, parts_pos}
use Rattle.multiply_add.proofs.fused_zero_addend.Goals as goal

pub returns : goal.returns
returns c =
    let a = c.args in
    let x = c.read.result in
    let y = c.read-2.result in
    exact_product a.dir (of_bits binary64 a.a) (of_bits binary64 a.b) (sign_of a.a) (sign_of a.b) (sign_of a.c) (x.m * 2 ^ x.e) (y.m * 2 ^ y.e) c.product_parts.result
    (parts_pos x y) c.read.ensures c.read-2.ensures
    (λ A q Q p. c.product_parts.ensures A q Q (p ∙ ap (λ (z : ℕ). z * q) (product_parts x y)) ∙ ap (λ (t : Bool). to_bits binary64 (round_to a.dir binary64 t A q)) c.unlike_signs.ensures)
    ∙ ap (λ (v : Float). to_bits binary64 (plus a.dir (product (of_bits binary64 a.a) (of_bits binary64 a.b)) v)) (sym (read_zero a.c c.requires.2))
    ∙ sym (fused_is a.dir a.a a.b a.c)
