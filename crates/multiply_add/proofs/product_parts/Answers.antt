-- `multiply_add::product_parts` meets its contract. Assumes nothing.
use mathlib.Core.Path.{◌≡◌, sym, ap, ◌∙◌}
use Prim.Native.Nat.{ℕ, ◌+◌, ◌*◌, ◌^◌}
use Rattle.wide.specs.Words.{value}
use Rattle.operands.proofs.Reading.{stands_just}
use Rattle.multiply_add.proofs.Sums.{ready_pos}
use Rattle.multiply_add.proofs.Products.{product_ready, exponents}
use Rattle.multiply_add.proofs.product_parts.Goals as goal

pub round_wide-requires : goal.round_wide-requires
round_wide-requires c =
    let a = c.args.a in
    let b = c.args.b in
    (ready_pos (product_ready a b (value c.product.result) c.product.ensures), exponents a b)

pub returns : goal.returns
returns c =
    λ A d D p.
    let a = c.args.a in
    let b = c.args.b in
    let q : A * 2 ^ 2273 ≡ value c.product.result * 2 ^ (a.e + b.e) * d = p ∙ ap (λ (x : ℕ). x * 2 ^ (a.e + b.e) * d) (sym c.product.ensures) in
    c.round_wide.ensures A d (stands_just D q) (λ l. q)
