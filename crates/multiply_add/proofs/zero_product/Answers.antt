-- `multiply_add::zero_product` meets its contract. Assumes nothing.
use mathlib.Core.Path.{sym, ap, ◌∙◌}
use mathlib.Core.Logic.{inl, inr}
use Rattle.rounding.specs.Machine.{sign_bit}
use Rattle.operands.proofs.Signs.{beq_true, beq_false}
use Rattle.multiply_add.proofs.Special.{zero_like, zero_other, zero_zero}
use Rattle.multiply_add.proofs.zero_product.Goals as goal

pub returns-then-z-ne0 : goal.returns-then-z-ne0
returns-then-z-ne0 c =
    λ q Q.
    let a = c.args in
    elim c.if-z-ne0.either [
      | inl e ↦ zero_like a.dir a.s a.c q c.ranges.c.fits c.requires Q (beq_true a.s c.negative.result e ∙ c.negative.ensures)
      | inr h ↦ zero_other a.dir a.s a.c q c.ranges.c.fits c.requires Q (λ w. beq_false a.s c.negative.result h.0 (w ∙ sym c.negative.ensures)) h.1
    ]

pub returns-else-z-ne0 : goal.returns-else-z-ne0
returns-else-z-ne0 c =
    λ q Q.
    let a = c.args in
    let h = c.if-z-ne0.false in
    c.sign_bit.ensures ∙ ap sign_bit c.zero_sign.ensures
    ∙ zero_zero a.dir a.s a.c q c.ranges.c.fits c.requires Q (λ w. beq_false a.s c.negative.result h.0 (w ∙ sym c.negative.ensures)) h.1
