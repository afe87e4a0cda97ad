-- `fast_fused::fused_near` meets its contract. Assumes nothing.
use mathlib.Core.Path.{◌≡◌, sym, ◌∙◌, subst}
use mathlib.Core.Bool.{Bool}
use Prim.Native.Nat.{ℕ, ◌+◌, ◌-◌, ◌*◌, ◌^◌, ◌≤◌}
use native.Mathlib.Nat.{lt_of_lt_of_le, mul-pos}
use lib.Dec.{lit<}
use lib.Pow.{pow_pos}
use lib.Ieee.{binary64, unlike, of_bits}
use borrow.Author.Rules.{rules}
use native.Mathlib.Omega.{arith}
use Rattle.wide.specs.Words.{value}
use Rattle.rounding.specs.declared.Direction.TheVariants.{Nearest}
use Rattle.operands.specs.Machine.{sign_of, SumOf}
use Rattle.multiply_add.proofs.Products.{fused_is, exact_sum}
use Rattle.fast_fused.proofs.NearSums.{near_answer}
use Rattle.fast_fused.proofs.fused_near.Goals as goal
use Rattle.fast_fused.proofs.fused_near.Goals.{After-negative}

unit : (n z : ℕ) → n ≤ z + 1126 → z + 1127 - n + (n + 20) ≡ z + 1147
unit n z h = omega arith

pub exact_sum-sum-requires : goal.exact_sum-sum-requires
exact_sum-sum-requires c = search rules

pub returns : goal.returns
returns c =
    let v = (goal.at.returns c).After-negative in
    let a = c.args in
    let x = c.read_normal-x.result in
    let y = c.read_normal-y.result in
    let z = c.read_normal-z.result in
    let k = z.e + 1127 - (x.e + y.e) in
    let sum = c.exact_sum-sum.result in
    let n = exact_sum-sum-requires v in
    exact_sum Nearest (of_bits binary64 a.a) (of_bits binary64 a.b) (of_bits binary64 a.c) (sign_of a.a) (sign_of a.b) (sign_of a.c) (x.m * 2 ^ x.e) (y.m * 2 ^ y.e) (z.m * 2 ^ z.e) c.round_exact.result
    c.read_normal-x.ensures.0 c.read_normal-y.ensures.0 c.read_normal-z.ensures.0
    (λ A B q Q p p'.
    near_answer x y z A B q k (unit (x.e + y.e) z.e n.over) Q p p' Nearest (unlike (sign_of a.a) (sign_of a.b)) (sign_of a.c) sum.neg (value sum.size) c.round_exact.result
    (mul-pos (lt_of_lt_of_le (lit< tt) z.low) (pow_pos k))
    (subst (λ (b : Bool). SumOf b (sign_of a.c) (x.m * 2 * y.m) (z.m * 2 ^ k) sum.neg (value sum.size)) c.unlike_signs.ensures
    (subst (λ (b : Bool). SumOf c.unlike_signs.result b (x.m * 2 * y.m) (z.m * 2 ^ k) sum.neg (value sum.size)) v.negative.ensures c.exact_sum-sum.ensures))
    c.round_exact.ensures)
    ∙ sym (fused_is Nearest a.a a.b a.c)
